-- A word whose flow is right has edges that end at words of the code, whose rows lie among the rows; a word that is not examined needs none.
use Prim.Native.Nat.{ℕ, ◌*◌}
use mathlib.Core.Path.{◌≡◌, sym, subst}
use mathlib.Core.Bool.{true}
use mathlib.Core.List.{List}
use native.Mathlib.Omega.{arith}
use lib.ListN.{length}
use Rattle.v8.specs.declared.Reading.{Reading}
use Rattle.v8.specs.declared.Reading.TheVariants.{Read, Unread}
use Rattle.flow_edges.specs.declared.Destination.{Destination}
use Rattle.flow_edges.specs.declared.Destination.TheVariants.{To, Caller}
use Rattle.flow_edges.specs.Edge.{edge_of}
use Rattle.flow_code.specs.Readings.{reading_at, examined}
use Rattle.flow.specs.Flow.{flow_of}
use Rattle.flow.specs.Laws.{InCode}
use Rattle.flow.proofs.Onward.{instruction_flows}
use Rattle.rows.specs.Geometry.{row_bytes}
use Rattle.passes.specs.Answer.{passes}
use Rattle.passes.specs.Passes.{flow_pass}
use Rattle.checker.specs.Lent.{EndIn, ReadingIn}
use Rattle.passes.proofs.Accepting.{flow_holds}

module _ (code : List Reading) (n : ℕ) (rows : row_bytes * length code ≡ n) where
  end-in : (d : Destination) → InCode code d → EndIn d n
  end-in (To w) l = omega (arith, rows, l)
  end-in Caller l = tt

  reading_in : (w : ℕ) (x : Reading) → flow_of code w x ≡ true → examined code w ≡ true → ReadingIn w x n
  reading_in w (Read x) f e = λ taken t. end-in (edge_of w x taken).to ((instruction_flows code w x f).ends e taken t)
  reading_in w (Unread number) f e = tt

  pub word_in : (w : ℕ) (x : Reading) → x ≡ reading_at code w → passes (flow_pass code w) ≡ true
      → examined code w ≡ true → ReadingIn w x n
  word_in w x q f e = reading_in w x (subst (λ (y : Reading). flow_of code w y ≡ true) (sym q) (flow_holds code w f)) e
