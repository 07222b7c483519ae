-- Laws of words and columns, of arrays made element by element, and of a block by its columns.
pub mod ByteLaws
pub mod ColumnLaws
pub mod RunLaws
