-- The two laws of reading and writing: each undoes the other, in each edition.
use Rattle.std.specs.Prelude.{ℕ, ◌≡◌, Some}
use Rattle.v8.specs.Read.{reading_of}
use Rattle.writer.specs.Write.{writing_of}
use Rattle.v8.specs.declared.Edition.{Edition}
use Rattle.v8.specs.declared.Instruction.{Instruction}
use Rattle.v8.specs.declared.Reading.TheVariants.{Read}

-- What is written is read back as the same instruction.
abbrev pub WrittenIsRead : Type 0
WrittenIsRead = (e : Edition) (x : Instruction) (w : ℕ) → writing_of e x ≡ Some w → reading_of e w ≡ Read x

-- What is read is written back as the same word.
abbrev pub ReadIsWritten : Type 0
ReadIsWritten = (e : Edition) (w : ℕ) (x : Instruction) → reading_of e w ≡ Read x → writing_of e x ≡ Some w
