-- `ending::finish` meets its contract: the two windows are the two blocks, and what is made of their bytes is what
-- becomes of the message of their bits. Assumes nothing.
use Rattle.bits.proofs.Owned.{arrays}
use Rattle.cipher.specs.Promises.{UndoEachOther}
use Rattle.cipher.proofs.CipherLaws.{undo_each_other}
use Rattle.ending.proofs.EndingLaws.{part-encrypted, part-decrypted}
use Rattle.ending.proofs.finish.Goals as goal

pub returns-in-Encrypt : goal.returns-in-Encrypt
unfolding UndoEachOther
returns-in-Encrypt c =
    let s = c.args.session in
    let ciphers = undo_each_other s.rounds s.keys c.requires.rounds_good (search arrays) in
    rw c.in-Encrypt.is
    (part-encrypted c.requires ciphers (search arrays) (rw (c.window-block.ensures, c.window-end.ensures) at c.encrypt_ending.ensures))

pub returns-in-Decrypt : goal.returns-in-Decrypt
unfolding UndoEachOther
returns-in-Decrypt c =
    let s = c.args.session in
    let ciphers = undo_each_other s.rounds s.keys c.requires.rounds_good (search arrays) in
    rw c.in-Decrypt.is
    (part-decrypted c.requires ciphers (search arrays) (rw (c.window-block.ensures, c.window-end.ensures) at c.decrypt_ending.ensures))
