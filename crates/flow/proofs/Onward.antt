-- Where control goes in words that each pass 3: an edge of a word that is examined ends at the caller, or at a word of the code that is examined too. A
-- taken edge lands on a word that is examined by that; the other goes on to one that is no slot.
use Prim.Native.Nat.{ℕ, ◌+◌, ◌<◌}
use mathlib.Core.Path.{◌≡◌, refl, sym, ap, ◌∙◌, subst}
use mathlib.Core.Bool.{Bool, true, false, not, ◌||◌}
use mathlib.Core.List.{List}
use native.Mathlib.Omega.{arith}
use lib.Dec.{ltb}
use lib.ListN.{length}
use borrow.Author.Tests.{ltb-true, eq-eqb, not-true}
use Rattle.v8.specs.declared.Instruction.{Instruction}
use Rattle.v8.specs.declared.Instruction.TheVariants.{Plain, Branch, Return}
use Rattle.v8.specs.declared.Reading.{Reading}
use Rattle.v8.specs.declared.Reading.TheVariants.{Read, Unread}
use Rattle.v8.proofs.Choice.{false_true, and_went}
use Rattle.v8.proofs.Search.{and_both}
use Rattle.flow_edges.specs.declared.Destination.{Destination}
use Rattle.flow_edges.specs.declared.Destination.TheVariants.{To, Caller}
use Rattle.flow_edges.specs.Transfer.{is_transfer}
use Rattle.flow_edges.specs.Edge.{edge_of}
use Rattle.flow_code.specs.Readings.{reading_at, transfers, ends_at, lands_on, is_slot, examined}
use Rattle.flow.specs.Flow.{in_code, edge_flow, edges_flow, transfer_flow, flow_of}
use Rattle.flow.specs.Laws.{InCode, Flows, InstructionFlows, Flowing, Lands, EdgesLand, SlotNoTransfer}
use Rattle.flow_code.proofs.Examined.{free_examined, target_examined, slot_next}

-- a test that is asked only where another passes
asked : (a b : Bool) → not a || b ≡ true → a ≡ true → b ≡ true
asked true b e t = e
asked false b e t = false_true t

in-code : (readings : List Reading) (d : Destination) → in_code (length readings) d ≡ true → InCode readings d
in-code readings (To w) e = ltb-true w.0 (length readings) e
in-code readings Caller e = tt

pub instruction_flows : InstructionFlows
instruction_flows readings w x e =
    record {
      slot = λ t. ltb-true (w + 1) (length readings) (own t).0;
      free = λ t. not-true (is_slot readings w) (own t).1;
      ends = λ f taken t. in-code readings (edge_of w x taken).to (asked (edge_of w x taken).exists (in_code (length readings) (edge_of w x taken).to) (each f taken) t);
    }
  where
    parts : (not (is_transfer x) || transfer_flow (length readings) (is_slot readings w) w ≡ true) × (not (examined readings w) || edges_flow (length readings) w x ≡ true)
    parts = and_went (not (is_transfer x) || transfer_flow (length readings) (is_slot readings w) w) (not (examined readings w) || edges_flow (length readings) w x) e

    own : is_transfer x ≡ true → (ltb (w + 1) (length readings) ≡ true) × (not (is_slot readings w) ≡ true)
    own t = and_went (ltb (w + 1) (length readings)) (not (is_slot readings w)) (asked (is_transfer x) (transfer_flow (length readings) (is_slot readings w) w) parts.0 t)

    both : examined readings w ≡ true → (edge_flow (length readings) (edge_of w x true) ≡ true) × (edge_flow (length readings) (edge_of w x false) ≡ true)
    both f = and_went (edge_flow (length readings) (edge_of w x true)) (edge_flow (length readings) (edge_of w x false)) (asked (examined readings w) (edges_flow (length readings) w x) parts.1 f)

    each : examined readings w ≡ true → (taken : Bool) → edge_flow (length readings) (edge_of w x taken) ≡ true
    each f true = (both f).0
    each f false = (both f).1

module _ (readings : List Reading) (ok : Flowing readings) where
  -- an instruction goes where 3 allows
  pub flows : (w : ℕ) → w < length readings → (x : Instruction) → reading_at readings w ≡ Read x → Flows readings w x
  flows w i x q = instruction_flows readings w x (subst (λ (y : Reading). flow_of readings w y ≡ true) q (ok w i))

  -- no transfer stands in the slot of another
  operates : (w : ℕ) → w + 1 < length readings → transfers (reading_at readings w) ≡ true → transfers (reading_at readings (w + 1)) ≡ false
  operates w i e = at (reading_at readings (w + 1)) refl
    where
      no : is_slot readings (w + 1) ≡ false → transfers (reading_at readings (w + 1)) ≡ false
      no s = false_true (sym s ∙ slot_next readings w ∙ e)

      at : (x : Reading) → reading_at readings (w + 1) ≡ x → transfers (reading_at readings (w + 1)) ≡ false
      at (Unread n) q = ap transfers q
      at (Read (Plain x)) q = ap transfers q
      at (Read (Branch b)) q = no ((flows (w + 1) i (Branch b) q).free refl)
      at (Read Return) q = no ((flows (w + 1) i Return q).free refl)

  -- the word after one that is no transfer is examined, and so is the one after a transfer's slot
  next_free : (w : ℕ) → transfers (reading_at readings w) ≡ false → examined readings (w + 1) ≡ true
  next_free w e = free_examined readings (w + 1) (slot_next readings w ∙ e)

  second_free : (w : ℕ) → w + 1 < length readings → transfers (reading_at readings w) ≡ true → examined readings (w + 2) ≡ true
  second_free w i e = subst (λ (k : ℕ). examined readings k ≡ true) (two w) (next_free (w + 1) (operates w i e))
    where
      two : (w : ℕ) → w + 1 + 1 ≡ w + 2
      two w = omega arith

  -- a taken edge that ends in the code lands on a word that is examined, by that very edge
  taken_lands : (w : ℕ) (x : Instruction) (d : Destination) → (edge_of w x true).to ≡ d → reading_at readings w ≡ Read x → w < length readings
      → (edge_of w x true).exists ≡ true → InCode readings d → Lands readings d
  taken_lands w x Caller z q i e c = tt
  taken_lands w x (To t) z q i e c = (
    c,
    target_examined readings w t.0 i
        (subst (λ (y : Reading). lands_on w y t.0 ≡ true) (sym q)
        (and_both (edge_of w x true).exists (ends_at (edge_of w x true).to t.0) e
        (subst (λ (d : Destination). ends_at d t.0 ≡ true) (sym z) (eq-eqb t.0 t.0 refl)))),
  )

  lands : (w : ℕ) (x : Instruction) → reading_at readings w ≡ Read x → w < length readings → examined readings w ≡ true
      → (taken : Bool) → (edge_of w x taken).exists ≡ true → Lands readings (edge_of w x taken).to
  lands w x q i free true e = taken_lands w x (edge_of w x true).to refl q i e ((flows w i x q).ends free true e)
  lands w (Plain x) q i free false e = ((flows w i (Plain x) q).ends free false e, next_free w (ap transfers q))
  lands w (Branch b) q i free false e =
      let f = flows w i (Branch b) q in
      (f.ends free false e, second_free w (f.slot refl) (ap transfers q))
  lands w Return q i free false e = tt

pub edges_land : EdgesLand
edges_land = lands

pub slot_no_transfer : SlotNoTransfer
slot_no_transfer = operates
