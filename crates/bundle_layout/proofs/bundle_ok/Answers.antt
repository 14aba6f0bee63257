-- The tests are those of the definition, one after the other; each is made only where those before it passed.
use mathlib.Core.Bool.{Bool, true, false, ◌&&◌}
use mathlib.Core.Path.{◌≡◌, sym, ◌∙◌}
use lib.Dec.{eqb, leb}
use lib.ListN.{length}
use borrow.Author.Tests.{le-leb, lt-leb}
use Rattle.v8.specs.Search.{all}
use Rattle.bundle_layout.specs.Layout.{most_bytes, head_ok, length_given, region_zero, region_count, bundle_ok}
use Rattle.bundle_layout.proofs.bundle_ok.Goals as goal
use Rattle.bundle_layout.proofs.bundle_ok.Goals.{Joined-bytes-length_given, then-bytes-most_bytes, else-bytes-most_bytes, then-head_ok, else-head_ok, then-bytes-length_given, else-bytes-length_given}

-- a second test is made where the first passed, and else the first's result stays
both : {v t : Bool} (y : Bool) → t ≡ true → v ≡ y → v ≡ t && y
both y t e = rw t e

none : {v t : Bool} (y : Bool) → t ≡ false → v ≡ t → v ≡ t && y
none y t e = e ∙ rw t

-- the tests but the last
tested : (c : Joined-bytes-length_given) → c.if-bytes-length_given.value
    ≡ leb (length c.args.bytes.now) (most_bytes c.args.bytes.now) && head_ok c.args.bytes.now && eqb (length c.args.bytes.now) (length_given c.args.bytes.now)
    && all (region_zero c.args.bytes.now) (region_count c.args.bytes.now)
tested c =
    let b = c.args.bytes.now in
    let size : c.if-bytes-most_bytes.value ≡ leb (length b) c.most_bytes.result && head_ok b =
    elim c.if-bytes-most_bytes.branch [
      | then-bytes-most_bytes w ↦ both _ (le-leb _ _ w.if-bytes-most_bytes.true) (w.value-is ∙ w.head_ok.ensures)
      | else-bytes-most_bytes w ↦ none _ (lt-leb _ _ w.if-bytes-most_bytes.false) w.value-is
    ] in
    let head : c.if-head_ok.value ≡ c.if-bytes-most_bytes.value && eqb (length b) (length_given b) =
    elim c.if-head_ok.branch [
      | then-head_ok w ↦ both _ w.if-head_ok.true (rw w.length_given.ensures at w.value-is)
      | else-head_ok w ↦ none _ w.if-head_ok.false w.value-is
    ] in
    let given : c.if-bytes-length_given.value ≡ c.if-head_ok.value && all (region_zero b) (region_count b) =
    elim c.if-bytes-length_given.branch [
      | then-bytes-length_given w ↦ both _ w.if-bytes-length_given.true (w.value-is ∙ w.regions_zero.ensures)
      | else-bytes-length_given w ↦ none _ w.if-bytes-length_given.false w.value-is
    ] in
    given ∙ rw (head, size, c.most_bytes.ensures)

pub returns-then-regions_zero : goal.returns-then-regions_zero
unfolding bundle_ok
returns-then-regions_zero c =
    let t = tested (goal.at.returns-then-regions_zero c).Joined-bytes-length_given in
    both _ (sym t ∙ c.if-regions_zero.true) c.fields_zero.ensures

pub returns-else-regions_zero : goal.returns-else-regions_zero
unfolding bundle_ok
returns-else-regions_zero c =
    let t = tested (goal.at.returns-else-regions_zero c).Joined-bytes-length_given in
    none _ (sym t ∙ c.if-regions_zero.false) t
