-- Where an access lies, by the entries of the two operands that it adds (document 01, "One word's conditions": "For memory: 5 .. 10"; request 7, "6
-- for any other use of the frame, storing its address too, 7 for another offset, 8 for another width (naming rs1 as before), 4 for an unset word"). The
-- conditions are tested in the paper's order, and each names a register: "5 names the kind 3 register, rs1 first; the others name rs1". Of the
-- policy it takes how many fields each region has, and where they lie.
use Rattle.std.specs.Prelude.{ℕ, ◌+◌, ◌-◌, ◌%◌, Bool, cond, not, ◌&&◌, List, ltb, eqb, get_or, Option, Some, None}
use Rattle.v8.specs.Signed.{bias}
use Rattle.v8.specs.Numbers.{maybe_null, no_rule, outside_fields, wrong_element, off_grid, not_allowed, too_high}
use Rattle.v8.specs.declared.Access.{Access}
use Rattle.policy.specs.declared.Field.{Field}
use Rattle.policy.specs.Policy.{no_field}
use Rattle.policy_search.specs.Find.{find_in}
use Rattle.memory.specs.Frame.{is_scratch, scratch_at}
use Rattle.access.specs.Serve.{access_width, is_word, serves, allows}
use Rattle.sets.specs.declared.NumberSet.{NumberSet}
use Rattle.sets_rules.specs.Rules.{add_sets}
use Rattle.rows.specs.declared.Entry.{Entry}
use Rattle.rules.specs.declared.Reach.{Reach}
use Rattle.rules.specs.declared.Reach.TheVariants.{Inside, Scratch, Outside}
use Rattle.rows.specs.Entry.{is_number, is_address, is_start_or_null, is_frame, is_constant, word_of}

-- the end of the bytes reached, "from lowest to highest offset plus width"
abbrev pub reach_end : NumberSet → ℕ → ℕ
reach_end s width = s.hi - bias + width

-- "9 an offset off the element grid, or step not a multiple of the width"
abbrev pub on_grid : NumberSet → ℕ → Bool
on_grid s width = eqb (s.lo % width) 0 && eqb (s.step % width) 0

-- 13, 8, 9 and 10, of the field at a place that holds the bytes reached
unfoldable pub in_field : Field → Access → ℕ → NumberSet → ℕ → Reach
in_field f a rs1 s place =
    cond (ltb 4096 (reach_end s (access_width a))) (Outside too_high rs1)
    (cond (not (serves a f.element)) (Outside wrong_element rs1)
    (cond (not (on_grid s (access_width a))) (Outside off_grid rs1)
    (cond (not (allows a f.permission)) (Outside not_allowed rs1)
    (Inside place))))

abbrev pub in_found : List Field → Access → ℕ → NumberSet → Option ℕ → Reach
in_found fields a rs1 s (Some place) = in_field (get_or fields place no_field) a rs1 s place
in_found fields a rs1 s None = Outside outside_fields rs1

-- an offset of the frame: "7 for another offset, 8 for another width"
unfoldable pub in_frame : Access → ℕ → ℕ → Reach
in_frame a rs1 offset =
    cond (not (is_scratch offset)) (Outside outside_fields rs1)
    (cond (not (is_word a)) (Outside wrong_element rs1)
    (Scratch (scratch_at offset)))

-- "LD and ST through r14 with a single number", on either side; "6 for any other use of the frame", and for all else that has no rule
unfoldable pub frame_reach : Access → ℕ → Entry → Entry → Reach
frame_reach a rs1 x y =
    cond (is_frame x && is_constant y) (in_frame a rs1 (word_of y))
    (cond (is_constant x && is_frame y) (in_frame a rs1 (word_of x))
    (Outside no_rule rs1))

module _ (counts : List ℕ) (fields : List Field) where
  -- 7: the offsets of a region, with all the bytes from the lowest on inside one field
  unfoldable pub in_region : Access → ℕ → ℕ → NumberSet → Reach
  in_region a rs1 r s =
      cond (ltb s.lo bias) (Outside outside_fields rs1)
      (in_found fields a rs1 s (find_in counts fields r (s.lo - bias) (reach_end s (access_width a))))

  -- 5 and 6, where `frame` says that the frame address would be stored, then the rest on the sum of an address and a number
  unfoldable pub reach_of : Access → Bool → ℕ → Entry → ℕ → Entry → Reach
  reach_of a frame rs1 x rs2 y =
      cond (is_start_or_null x) (Outside maybe_null rs1)
      (cond (is_start_or_null y) (Outside maybe_null rs2)
      (cond frame (Outside no_rule rs1)
      (cond (is_address x && is_number y) (in_region a rs1 x.region (add_sets x.set y.set))
      (cond (is_number x && is_address y) (in_region a rs1 y.region (add_sets x.set y.set))
      (frame_reach a rs1 x y)))))
