-- Tables raised by what is sent, one after the other: the lowest that are at least the one before and take all of it in.
use Prim.Native.Nat.{ℕ, ◌+◌, ◌*◌, ◌≤◌, ◌<◌}
use mathlib.Core.Path.{◌≡◌, refl, ◌∙◌}
use mathlib.Core.Bool.{true, false}
use mathlib.Core.List.{List, [], ◌∷◌}
use native.Mathlib.Omega.{arith}
use lib.Dec.{ltb}
use lib.ListN.{length}
use borrow.Author.Tests.{ltb-true}
use Rattle.v8.specs.declared.Reading.{Reading}
use Rattle.v8.specs.declared.Reading.TheVariants.{Read, Unread}
use Rattle.v8.proofs.Choice.{cond_both, and_went}
use Rattle.v8.proofs.Search.{and_both}
use Rattle.flow_edges.specs.declared.Destination.{Destination}
use Rattle.flow_edges.specs.declared.Destination.TheVariants.{To, Caller}
use Rattle.flow_edges.specs.declared.Edge.{Edge}
use Rattle.flow_edges.specs.Transfer.{is_transfer}
use Rattle.flow_edges.specs.Edge.{edge_of}
use Rattle.flow_code.specs.Readings.{reading_at, examined}
use Rattle.marks.specs.Marks.{register_count}
use Rattle.marks.specs.Effect.{marks_after}
use Rattle.lister_rules.specs.Table.{marks_at, reached, TableAtMost}
use Rattle.lister_rules.specs.Rules.{Sent, nowhere, arriving, to_word, to_end, carried, sent_along, sends, sent_by, taken_in, all_taken_in, raised_by, raised_by_all}
use Rattle.lister_rules.proofs.Tables.{raised_length, raised_least, raised_taken, raised_lowest, table_self, table_trans, taken_nowhere, taken_higher}

pub by_length : (table : List ℕ) (s : Sent) → length (raised_by table s) ≡ length table
by_length table nowhere = refl
by_length table (arriving w marks) = raised_length table w marks

pub by_least : (table : List ℕ) (s : Sent) → TableAtMost table (raised_by table s)
by_least table nowhere = table_self table
by_least table (arriving w marks) = raised_least table w marks

pub by_lowest : (table other : List ℕ) (s : Sent) → TableAtMost table other → taken_in other s ≡ true → TableAtMost (raised_by table s) other
by_lowest table other nowhere p e = p
by_lowest table other (arriving w marks) p e = raised_lowest table other w marks p e

pub all_length : (table : List ℕ) (ss : List Sent) → length (raised_by_all table ss) ≡ length table
all_length table [] = refl
all_length table (s ∷ ss) = all_length (raised_by table s) ss ∙ by_length table s

pub all_least : (table : List ℕ) (ss : List Sent) → TableAtMost table (raised_by_all table ss)
all_least table [] = table_self table
all_least table (s ∷ ss) = table_trans table (raised_by table s) (raised_by_all (raised_by table s) ss) (by_least table s) (all_least (raised_by table s) ss)

pub all_lowest : (table other : List ℕ) (ss : List Sent) → TableAtMost table other → all_taken_in other ss ≡ true → TableAtMost (raised_by_all table ss) other
all_lowest table other [] p e = p
all_lowest table other (s ∷ ss) p e =
    let both = and_went (taken_in other s) (all_taken_in other ss) e in
    all_lowest (raised_by table s) other ss (by_lowest table other s p both.0) both.1

-- a higher table takes in all that a lower one does
pub all_higher : (a b : List ℕ) (ss : List Sent) → TableAtMost a b → all_taken_in a ss ≡ true → all_taken_in b ss ≡ true
all_higher a b [] p e = refl
all_higher a b (s ∷ ss) p e =
    let both = and_went (taken_in a s) (all_taken_in a ss) e in
    and_both _ _ (taken_higher a b s p both.0) (all_higher a b ss p both.1)

-- what is sent arrives at one of n words
abbrev pub Within : ℕ → Sent → Type 0
Within n nowhere = Unit {0}
Within n (arriving w marks) = w < n

abbrev pub AllWithin : ℕ → List Sent → Type 0
AllWithin n [] = Unit {0}
AllWithin n (s ∷ ss) = Within n s × AllWithin n ss

pub to_within : (n w : ℕ) (marks : List ℕ) → Within n (to_word n w marks)
to_within n w marks = cond_both (Within n) (ltb w n) (λ e. ltb-true w n e) (λ e. tt)

end_within : (n : ℕ) (d : Destination) (marks : List ℕ) → Within n (to_end n d marks)
end_within n (To w) marks = to_within n w.0 marks
end_within n Caller marks = tt

along_within : (n : ℕ) (x : Reading) (e : Edge) (marks : List ℕ) → Within n (sent_along n x e marks)
along_within n x e marks = cond_both (Within n) e.exists (λ f. end_within n e.to (carried e x marks)) (λ f. tt)

sends_within : (n w : ℕ) (x slot : Reading) (marks : List ℕ) → AllWithin n (sends n w x slot marks)
sends_within n w (Unread number) slot marks = tt
sends_within n w (Read x) slot marks = (
  cond_both (Within n) (is_transfer x) (λ f. to_within n (w + 1) marks) (λ f. tt),
  (along_within n slot (edge_of w x true) (marks_after marks x), (along_within n slot (edge_of w x false) (marks_after marks x), tt)),
)

pub sent_within : (readings : List Reading) (table : List ℕ) (w : ℕ) → AllWithin (length readings) (sent_by readings table w)
unfolding sent_by
sent_within readings table w =
    let n = length readings in
    cond_both (AllWithin n) (examined readings w)
    (λ e. cond_both (AllWithin n) (reached (marks_at table w)) (λ f. sends_within n w (reading_at readings w) (reading_at readings (w + 1)) (marks_at table w)) (λ f. tt))
    (λ e. tt)

-- a table that has places for n words takes in what it is raised by
pub by_taken : (n : ℕ) (table : List ℕ) (s : Sent) → register_count * n ≤ length table → Within n s → taken_in (raised_by table s) s ≡ true
by_taken n table nowhere long h = taken_nowhere table
by_taken n table (arriving w marks) long h = raised_taken table w marks (omega (arith, long, h))

pub all_taken : (n : ℕ) (table : List ℕ) (ss : List Sent) → register_count * n ≤ length table → AllWithin n ss → all_taken_in (raised_by_all table ss) ss ≡ true
all_taken n table [] long h = refl
all_taken n table (s ∷ ss) long h =
    let one = raised_by table s in
    and_both _ _
    (taken_higher one (raised_by_all one ss) s (all_least one ss) (by_taken n table s long h.0))
    (all_taken n one ss (omega (arith, long, by_length table s)) h.1)
