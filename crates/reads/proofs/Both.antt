-- A reading within range is read as itself, so a book is well-formed exactly if it has the bytes of such a reading: what was written is
-- read, and what is read from bytes is within range. Assumes nothing.
use mathlib.Core.Path.{sym}
use Rattle.protocol.specs.Book.{reading_of}
use Rattle.reads.proofs.Again.{writes_again}
use Rattle.reads.specs.Reading.{ReadAsItself, FormedExactly}
use Rattle.reads.proofs.Written.{book_read, book_formed}
use Rattle.reads.proofs.Range.{book_bytes, read_range}

pub read_as_itself : ReadAsItself
read_as_itself b r = record { bytes = book_bytes b r; formed = book_formed b r.rows r.few; read = book_read b r.rows }

pub formed_exactly : FormedExactly
formed_exactly s bs =
    (λ v. (reading_of s, read_range s bs v, writes_again s bs v), λ x. rw (sym x.2) (read_as_itself x.0 x.1).formed)
