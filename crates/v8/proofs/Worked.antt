-- Words of document 01's "Trial words", as they are read.
use mathlib.Core.Path.{◌≡◌, refl}
use mathlib.Core.Bool.{false}
use Rattle.v8.specs.declared.Edition.{Edition}
use Rattle.v8.specs.declared.BranchForm.TheVariants.{Unpredicted}
use Rattle.v8.specs.declared.Operation.TheVariants.{Sethi}
use Rattle.v8.specs.declared.Instruction.TheVariants.{Plain, Branch, Return}
use Rattle.v8.specs.declared.Reading.TheVariants.{Read}
use Rattle.v8.specs.Signed.{sign_extend}
use Rattle.v8.specs.Read.{reading_of, format00, format10, leaf_return}

-- "01000000 as SETHI 0 to r0"
pub nop_read : (e : Edition) → reading_of e 0x01000000 ≡ Read (Plain (Sethi 0 0))
unfolding reading_of format00
nop_read e = refl

-- "81C3E008 reads as the leaf return"
pub return_read : (e : Edition) → reading_of e leaf_return ≡ Read Return
unfolding reading_of format10
return_read e = refl

-- "10800000 (always, distance 0)"
pub always_read : (e : Edition) → reading_of e 0x10800000 ≡ Read (Branch (record { annul = false; cond = 8; distance = record { 0 = 0 }; form = Unpredicted }))
unfolding reading_of format00 sign_extend
always_read e = refl
