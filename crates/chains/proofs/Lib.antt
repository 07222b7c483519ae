-- Laws about the definitions of specs/.
mod ChainLaws
