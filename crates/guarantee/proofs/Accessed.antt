-- What loads and stores do to a row covers what they do to the machine. An access that passed the conditions lies in one region and one field
-- (rules' `reaches`), the machine finds that region and that field, and the fields keep their declared values (Stored); or it is of a scratch word, which
-- the machine finds too, since no region holds its address.
use Prim.Native.Nat.{ℕ, ◌+◌, ◌-◌, ◌*◌, ◌%◌, ◌≤◌, ◌<◌}
use mathlib.Core.Path.{◌≡◌, refl, sym, ap, ◌∙◌, subst}
use mathlib.Core.Logic.{inl, inr}
use mathlib.Core.Bool.{Bool, true, false, ◌&&◌}
use mathlib.Core.List.{List}
use native.Mathlib.Omega.{arith}
use lib.Dec.{ltb, eqb}
use borrow.Author.Tests.{eqb-true, eq-eqb}
use Rattle.v8.proofs.Choice.{cond_both, false_true}
use Rattle.v8.specs.declared.LoadOp.TheVariants.{Ld, Ldub, Lduh, Ldsb, Ldsh}
use Rattle.v8.specs.declared.StoreOp.{StoreOp}
use Rattle.v8.specs.declared.StoreOp.TheVariants.{St, Stb, Sth}
use Rattle.v8.specs.declared.Access.{Access}
use Rattle.v8.specs.declared.Access.TheVariants.{Loads, Stores}
use Rattle.v8.specs.declared.Displacement.{Displacement}
use Rattle.v8.specs.declared.Operation.TheVariants.{Memory}
use Rattle.v8.specs.Laws.{OperandSmall}
use Rattle.alu.specs.Result.{add32}
use Rattle.flow_writes.specs.Written.{access_writes}
use Rattle.policy.specs.declared.Policy.{Policy}
use Rattle.policy.specs.declared.Field.{Field}
use Rattle.policy.specs.Policy.{size_of, field_at, field_end}
use Rattle.policy.specs.Laws.{WellFormed}
use Rattle.memory.specs.Frame.{scratch_count, scratch_offset}
use Rattle.memory.specs.Memory.{word_at, load_of, store_of}
use Rattle.memory.proofs.Memory.{load_fits, store_keeps_length, store_keeps_bytes}
use Rattle.access.specs.declared.Located.TheVariants as Located·
use Rattle.access.specs.Serve.{access_width, serves, allows, addend}
use Rattle.access.specs.Layout.{layout_of}
use Rattle.access.specs.Locate.{inside_region, locate}
use Rattle.access.specs.Laws.{Disjoint}
use Rattle.access.proofs.Locating.{inside_says, allowed_located}
use Rattle.access.proofs.Framed.{scratch_located}
use Rattle.step.specs.declared.Aim.TheVariants as Aim·
use Rattle.step.specs.declared.Registers.{Registers}
use Rattle.step.specs.Registers.{value_of, is_set, scratch_set, with_scratch, operand_value, operand_set}
use Rattle.step.specs.Effect.{Core, effect_of, aim_in, aim_of, moved_set, touching, scratch_access}
use Rattle.sets.specs.Sets.{Step}
use Rattle.sets.proofs.Steps.{by_step}
use Rattle.rows.specs.declared.Entry.{Entry}
use Rattle.rows.specs.declared.Row.{Row}
use Rattle.rows.specs.Entry.{is_unset, is_frame, fits, field_entry}
use Rattle.rows.specs.Geometry.{register_count, scratch_entry}
use Rattle.rows.specs.Row.{entry_at, row_with}
use Rattle.rows.specs.Matches.{Host, base_of, Holds}
use Rattle.rows.specs.Laws.{EntryRules}
use Rattle.rows.proofs.Fitting.{fits_matches}
use Rattle.rows.proofs.Obeying.{field_entry_obeys}
use Rattle.rules.specs.declared.Reach.{Reach}
use Rattle.rules.specs.declared.Reach.TheVariants.{Inside, Scratch, Outside}
use Rattle.rules.specs.declared.Change.{Change}
use Rattle.rules.specs.Reach.{reach_of}
use Rattle.rules.specs.Change.{operand_entry, operand_name, note_after, stores, accessed, kept_at, accessed_at, access_change, operation_change}
use Rattle.rules.specs.Laws.{Laid, Reached, ReachedScratch, ReachedAs}
use Rattle.rules.proofs.RightReach.{width_step, reaches}
use Rattle.rules.proofs.Writes.{writes_row, keeps_note}
use Rattle.guarantee.specs.Fields.{field_of, byte_of, scratch_of}
use Rattle.guarantee.specs.Safe.{SafeAccess, ScratchRead, SafeScratch, OperationSafe}
use Rattle.guarantee.specs.Guarantee.{host_of, value_at, mark_at, held_of}
use Rattle.guarantee.specs.Laws.{InElement}
use Rattle.guarantee.specs.Invariant.{CoreOk, Fitted, Kept, Good, Covers}
use Rattle.guarantee.proofs.Held.{scratch_value, scratch-mark, read_small, same_held, wrote_scratch, words_kept}
use Rattle.guarantee.proofs.Computed.{register_held, operand_held, operand_rules, operand_word, after_word, written_kept}
use Rattle.guarantee.proofs.Stored.{load_declared, store_declared, store_framed}
use Rattle.guarantee.proofs.Scratch.{store_keeps_scratch, scratch_declared, scratch_framed}

-- a base is a multiple of every width
base_aligned : {w : ℕ} → Step w → (base offset : ℕ) → base % 8 ≡ 0 → offset % w ≡ 0 → (base + offset) % w ≡ 0
base_aligned =
    by_step (λ (w : ℕ). (base offset : ℕ) → base % 8 ≡ 0 → offset % w ≡ 0 → (base + offset) % w ≡ 0)
    (omega arith) (omega arith) (omega arith) (omega arith)

-- a field's entry is not unset
entry_set : (f : Field) → is_unset (field_entry f) ≡ false
unfolding field_entry
entry_set f =
    cond_both (λ (e : Entry). is_unset e ≡ false) (ltb f.element 6) (λ _. refl)
    λ _. cond_both (λ (e : Entry). is_unset e ≡ false) (eqb f.element 6) (λ _. refl) (λ _. refl)

-- where an access aims whose operands are set and whose sum is aligned
aimed : (g : Registers) (others : Bool) (rs1 : ℕ) (d : Displacement) (width : ℕ) → is_set g rs1 ≡ true → operand_set g (addend d) ≡ true → others ≡ true
    → add32 (value_of g rs1) (operand_value g (addend d)) % width ≡ 0
    → aim_of g others rs1 d width ≡ Aim·.Address (add32 (value_of g rs1) (operand_value g (addend d)))
unfolding aim_in
aimed g others rs1 d width a b o z = rw (a, b, o, eq-eqb (add32 (value_of g rs1) (operand_value g (addend d)) % width) 0 z)

module _ (p : Policy) (bases : List ℕ) (returns frame : ℕ) (wf : WellFormed p) (laid : Laid p.regions.count p.regions.sizes (host_of bases returns frame)) where
  abbrev host : Host
  host = host_of bases returns frame

  -- no address lies in two regions
  disjoint : Disjoint (layout_of p bases frame)
  disjoint r q n i j s t =
      let here = inside_says p.regions.sizes bases n r s in
      let there = inside_says p.regions.sizes bases n q t in
      laid.one r q n i j here.0 here.1 there.0 there.1

  module _ (a : Access) (x y place : ℕ) (q : Reached p host a x y place) where
    -- the field at the place is the region's
    at_field : (C : Field → Type 0) → C (field_at p place) → C (field_of p q.region q.field)
    at_field C c = subst (λ (n : ℕ). C (field_at p n)) q.here c

    element : InElement p a q.region q.field q.offset
    element =
        record {
          region = q.region_is;
          field = q.field_is;
          low = at_field (λ (f : Field). f.offset.0 ≤ q.offset) q.low;
          high = at_field (λ (f : Field). q.offset + access_width a ≤ field_end f) q.high;
          aligned = q.aligned;
          serving = at_field (λ (f : Field). serves a f.element ≡ true) q.serving;
        }

    allowed : allows a (field_of p q.region q.field).permission ≡ true
    allowed = at_field (λ (f : Field). allows a f.permission ≡ true) q.allowing

    inside : q.offset + access_width a ≤ size_of p q.region
    inside = through element.high (wf.field q.region q.field q.region_is q.field_is).inside
      where
        through : {i j k : ℕ} → i ≤ j → j ≤ k → i ≤ k
        through l m = omega arith

    sum_aligned : add32 x y % access_width a ≡ 0
    sum_aligned =
        ap (λ (n : ℕ). n % access_width a) q.address
        ∙ base_aligned (width_step a) (base_of host q.region) q.offset (laid.aligned q.region q.region_is) q.aligned

    safe_access : SafeAccess p host a x y
    safe_access =
        record {
          region = q.region;
          field = q.field;
          offset = q.offset;
          region_is = q.region_is;
          field_is = q.field_is;
          address = q.address;
          low = element.low;
          high = element.high;
          serving = element.serving;
          allowing = allowed;
          aligned = sum_aligned;
          not_null = some (base_of host q.region) q.offset (add32 x y) (laid.some q.region q.region_is) q.address;
          near = q.near;
        }
      where
        some : (b o n : ℕ) → 1 ≤ b → n ≡ b + o → 1 ≤ n
        some b o n l e = omega arith

    -- the machine's searches find the field
    located_there : locate (layout_of p bases frame) a (add32 x y) ≡ Located·.At q.region (record { 0 = q.offset })
    located_there =
        allowed_located p bases frame wf disjoint a (add32 x y) q.region q.offset
        (record {
          region = q.region_is;
          address_is = q.address;
          field = q.field;
          field_is = q.field_is;
          holds = (element.low, element.high);
          serving = element.serving;
          allowing = allowed;
        })

    -- the entry that the field's load gives is well formed
    entry_rules : EntryRules p.regions.count p.regions.sizes (field_entry (field_of p q.region q.field))
    entry_rules =
        field_entry_obeys p.regions.count (size_of p q.region) p.regions.sizes (field_of p q.region q.field)
        (wf.field q.region q.field q.region_is q.field_is)

  -- no region holds the address of a scratch word
  outside : (k : ℕ) → k < scratch_count → (r : ℕ) → r < p.regions.count → inside_region p.regions.sizes bases (frame + scratch_offset k) r ≡ false
  outside k l r m = at (inside_region p.regions.sizes bases (frame + scratch_offset k) r) refl
    where
      at : (t : Bool) → inside_region p.regions.sizes bases (frame + scratch_offset k) r ≡ t → t ≡ false
      at true e = let s = inside_says p.regions.sizes bases (frame + scratch_offset k) r e in
          absurd (laid.frame_apart r (frame + scratch_offset k) m s.0 s.1 (omega arith) (omega arith))
      at false e = refl

  module _ (a : Access) (x y k : ℕ) (q : ReachedScratch host a x y k) where
    scratch_aligned : add32 x y % access_width a ≡ 0
    scratch_aligned =
        ap (λ (n : ℕ). n % access_width a) q.address
        ∙ subst (λ (w : ℕ). (frame + scratch_offset k) % w ≡ 0) (sym (eqb-true (access_width a) 4 q.wide)) (fourth laid.frame_aligned)
      where
        fourth : frame % 8 ≡ 0 → (frame + (96 + 4 * k)) % 4 ≡ 0
        fourth e = omega arith

    safe_scratch : (g : Registers) → ScratchRead g a k → SafeScratch host g a x y
    safe_scratch g r =
        record {
          word = k;
          word_is = q.word;
          address = q.address;
          wide = q.wide;
          read = r;
          aligned = scratch_aligned;
          not_null = some (add32 x y) laid.frame_some q.address;
          sum = q.sum;
        }
      where
        some : (n : ℕ) → 1 ≤ frame → n ≡ frame + (96 + 4 * k) → 1 ≤ n
        some n l e = omega arith

    located_scratch : locate (layout_of p bases frame) a (add32 x y) ≡ Located·.Scratch k
    located_scratch =
        scratch_located p bases frame a (add32 x y) k q.word q.wide q.address
        (λ r l. subst (λ (n : ℕ). inside_region p.regions.sizes bases n r ≡ false) (sym q.address) (outside k q.word r l))

  module _ (row : Row) (c : Core) (ck : CoreOk p host c) (f : Fitted p host row c) (rs1 : ℕ) (d : Displacement) (ls : rs1 < 32) (l : OperandSmall (addend d)) where
    abbrev x : ℕ
    x = value_of c.registers rs1

    abbrev y : ℕ
    y = operand_value c.registers (addend d)

    abbrev Covering : Access → ℕ → Change → Type 0
    Covering a rd = Covers p host row c (Memory a rd rs1 d) (effect_of (layout_of p bases frame) c (Memory a rd rs1 d))

    -- registers as they were, and a memory in which the scratch words are
    memory_held : (c' : Core) → c'.registers ≡ c.registers → ((i : ℕ) → word_at c'.memory (scratch_of p i) ≡ word_at c.memory (scratch_of p i))
        → (i : ℕ) → (mark_at c' i ≡ mark_at c i) × (value_at p c' i ≡ value_at p c i)
    unfolding mark_at value_at
    memory_held c' e words i =
        (rw e, rw e (cond_both (λ (v : ℕ). v ≡ value_at p c i) (ltb i register_count) (λ t. rw t) (λ t. rw t (words (i - register_count)))))

    -- a store of a value that the field's entry holds
    store_kept : (op : StoreOp) (v place : ℕ) (q : Reached p host (Stores op) x y place) → v < 4294967296
        → Holds host (field_entry (field_of p q.region q.field)) v
        → Kept p host row c (record { registers = c.registers; memory = store_of op v (byte_of p q.region q.offset) c.memory })
    store_kept op v place q small holds =
        let i = element (Stores op) x y place q in
        let c' : Core = record { registers = c.registers; memory = store_of op v (byte_of p q.region q.offset) c.memory } in
        record {
          fitted =
              record {
                rules = f.rules;
                matches = same_held host row (held_of p c) (held_of p c') (memory_held c' refl (store_keeps_scratch p wf c.memory op q.region q.field q.offset v i)) refl refl f.matches;
              };
          core =
              record {
                words = ck.words;
                bytes = store_keeps_bytes op v (byte_of p q.region q.offset) c.memory ck.bytes;
                long = store_keeps_length op v (byte_of p q.region q.offset) c.memory ∙ ck.long;
                declared = store_declared p host wf c.memory ck.long ck.declared op q.region q.field q.offset v i small holds;
              };
          framed = store_framed p c.memory op q.region q.field q.offset v i (allowed (Stores op) x y place q);
        }

    -- both operands are set
    module _ (ua : is_unset (entry_at row rs1) ≡ false) (ub : is_unset (operand_entry row (addend d)) ≡ false) where
      -- the access is safe, and the machine makes it at the field that is reached
      makes : (a : Access) (rd place : ℕ) (q : Reached p host a x y place) → moved_set c.registers.marks a rd ≡ true
          → (after : Row) → Good p host after c (touching c a rd (byte_of p q.region q.offset))
          → OperationSafe p host c.registers (Memory a rd rs1 d) × Good p host after c (effect_of (layout_of p bases frame) c (Memory a rd rs1 d))
      makes a rd place q moved after good =
          let s = (register_held p host row c ck f rs1 ls ua).0 in
          let t = (operand_held p host row c ck f (addend d) l ub).0 in (
            (moved, (s, t, inl (safe_access a x y place q))),
            rw (
              aimed c.registers (moved_set c.registers.marks a rd) rs1 d (access_width a) s t moved (sum_aligned a x y place q),
              located_there a x y place q,
            ) good,
          )

      -- a load gives what the field holds; a store's value fits it, or the store breaks a condition
      field_covers : (a : Access) (rd : ℕ) → rd < 32 → (stores a && is_unset (entry_at row rd)) ≡ false → (place : ℕ) (q : Reached p host a x y place)
          → Covering a rd (accessed row.note a (access_writes a rd) rd (entry_at row rd) (field_entry (field_of p q.region q.field)))
      field_covers (Loads op) rd lr ud place q =
          let held = field_entry (field_of p q.region q.field) in
          let there = byte_of p q.region q.offset in
          makes (Loads op) rd place q refl (row_with row rd held (note_after row.note rd))
          (written_kept p host row c ck f rd (load_of op c.memory there) held lr (load_fits op c.memory there ck.bytes)
          (entry_rules (Loads op) x y place q)
          (load_declared p host wf c.memory ck.declared op q.region q.field q.offset
          (element (Loads op) x y place q) (allowed (Loads op) x y place q)))
      field_covers (Stores op) rd lr ud place q =
          let held = field_entry (field_of p q.region q.field) in
          let small = read_small c.registers ck.words rd in
          cond_both (Covering (Stores op) rd) (fits (entry_at row rd) held)
          (λ t. makes (Stores op) rd place q (register_held p host row c ck f rd lr ud).0 row
          (store_kept op (value_of c.registers rd) place q small
          (fits_matches host p.regions.count p.regions.sizes (entry_at row rd) held (is_set c.registers rd) (value_of c.registers rd) small
          (f.rules.entries rd) (entry_rules (Stores op) x y place q) t (λ _. register_held p host row c ck f rd lr ud) (entry_set (field_of p q.region q.field))).1))
          (λ _. tt)

      -- the access is of a scratch word, which is read only where it is set
      makes_scratch : (a : Access) (rd k : ℕ) (q : ReachedScratch host a x y k) → moved_set c.registers.marks a rd ≡ true → ScratchRead c.registers a k
          → (after : Row) → Good p host after c (scratch_access c a rd k (scratch_of p k))
          → OperationSafe p host c.registers (Memory a rd rs1 d) × Good p host after c (effect_of (layout_of p bases frame) c (Memory a rd rs1 d))
      makes_scratch a rd k q moved read after good =
          let s = (register_held p host row c ck f rs1 ls ua).0 in
          let t = (operand_held p host row c ck f (addend d) l ub).0 in (
            (moved, (s, t, inr (safe_scratch a x y k q c.registers read))),
            rw (
              aimed c.registers (moved_set c.registers.marks a rd) rs1 d (access_width a) s t moved (scratch_aligned a x y k q),
              located_scratch a x y k q,
            ) good,
          )

      -- a store of rd replaces the entry
      scratch_kept : (rd k : ℕ) → rd < 32 → is_unset (entry_at row rd) ≡ false → k < scratch_count
          → Kept p host (row_with row (scratch_entry k) (entry_at row rd) (note_after row.note (scratch_entry k))) c
          (record { registers = with_scratch c.registers k; memory = store_of St (value_of c.registers rd) (scratch_of p k) c.memory })
      scratch_kept rd k lr ud lk =
          let v = value_of c.registers rd in
          let c' : Core = record { registers = with_scratch c.registers k; memory = store_of St v (scratch_of p k) c.memory } in
          let small = read_small c.registers ck.words rd in
          let w = wrote_scratch p c k v ck.words lk small ck.long in
          let r = writes_row p.regions.count p.regions.sizes host row (held_of p c) (held_of p c') (scratch_entry k) v (entry_at row rd) (note_after row.note (scratch_entry k)) w
          f.rules f.matches (f.rules.entries rd) (register_held p host row c ck f rd lr ud).1 (after_word p host row c ck f row.note (scratch_entry k) f.rules.number)
          (keeps_note row.note (held_of p c) (held_of p c') (scratch_entry k) v w refl refl f.matches.note) in
          record {
            fitted = record { rules = r.0; matches = r.1 };
            core =
                record {
                  words = words_kept c.registers k ck.words lk;
                  bytes = store_keeps_bytes St v (scratch_of p k) c.memory ck.bytes;
                  long = store_keeps_length St v (scratch_of p k) c.memory ∙ ck.long;
                  declared = scratch_declared p host wf c.memory ck.declared k v;
                };
            framed = scratch_framed p c.memory k v lk;
          }

      scratch_covers : (a : Access) (rd : ℕ) → rd < 32 → (stores a && is_unset (entry_at row rd)) ≡ false → (k : ℕ) (q : ReachedScratch host a x y k)
          → Covering a rd (kept_at row a (access_writes a rd) (entry_at row rd) (scratch_entry k))
      scratch_covers (Loads Ld) rd lr ud k q =
          cond_both (Covering (Loads Ld) rd) (is_unset (entry_at row (scratch_entry k))) (λ _. tt)
          λ u. let m = f.matches.entries (scratch_entry k) u in
          let set : scratch_set c.registers k ≡ true = sym (scratch-mark p c k) ∙ m.0 in
          makes_scratch (Loads Ld) rd k q refl set (row_with row rd (entry_at row (scratch_entry k)) (note_after row.note rd))
          (rw set (written_kept p host row c ck f rd (load_of Ld c.memory (scratch_of p k)) (entry_at row (scratch_entry k)) lr (load_fits Ld c.memory (scratch_of p k) ck.bytes)
          (f.rules.entries (scratch_entry k)) (subst (Holds host (entry_at row (scratch_entry k))) (scratch_value p c k) m.1)))
      scratch_covers (Loads Ldub) rd lr ud k q = false_true q.wide
      scratch_covers (Loads Lduh) rd lr ud k q = false_true q.wide
      scratch_covers (Loads Ldsb) rd lr ud k q = false_true q.wide
      scratch_covers (Loads Ldsh) rd lr ud k q = false_true q.wide
      scratch_covers (Stores St) rd lr ud k q =
          makes_scratch (Stores St) rd k q (register_held p host row c ck f rd lr ud).0 tt (row_with row (scratch_entry k) (entry_at row rd) (note_after row.note (scratch_entry k)))
          (scratch_kept rd k lr ud q.word)
      scratch_covers (Stores Stb) rd lr ud k q = false_true q.wide
      scratch_covers (Stores Sth) rd lr ud k q = false_true q.wide

      reach_covers : (a : Access) (rd : ℕ) → rd < 32 → (stores a && is_unset (entry_at row rd)) ≡ false
          → (r : Reach) → ReachedAs p host a x y r → Covering a rd (accessed_at p row a (access_writes a rd) rd r)
      reach_covers a rd lr ud (Outside n r) q = tt
      reach_covers a rd lr ud (Scratch k) q = scratch_covers a rd lr ud k q
      reach_covers a rd lr ud (Inside place) q =
          subst (λ (n : ℕ). Covering a rd (accessed row.note a (access_writes a rd) rd (entry_at row rd) (field_entry (field_at p n)))) (sym q.here)
          (field_covers a rd lr ud place q)

    pub access_covers : (a : Access) (rd : ℕ) → rd < 32 → Covering a rd (operation_change p row (Memory a rd rs1 d))
    unfolding access_change
    access_covers a rd lr =
        cond_both (Covering a rd) (is_unset (entry_at row rs1)) (λ _. tt)
        λ ua. cond_both (Covering a rd) (is_unset (operand_entry row (addend d))) (λ _. tt)
        λ ub. cond_both (Covering a rd) (stores a && is_unset (entry_at row rd)) (λ _. tt)
        λ ud. let frames = stores a && is_frame (entry_at row rd) in
        reach_covers ua ub a rd lr ud
        (reach_of p.regions.fields p.fields a frames rs1 (entry_at row rs1) (operand_name (addend d)) (operand_entry row (addend d)))
        (reaches p host wf laid a frames rs1 (operand_name (addend d)) (entry_at row rs1) (operand_entry row (addend d)) x y
        (f.rules.entries rs1) (operand_rules p host row c ck f (addend d))
        (read_small c.registers ck.words rs1) (operand_word p host row c ck f (addend d) l)
        (register_held p host row c ck f rs1 ls ua).1 (operand_held p host row c ck f (addend d) l ub).1)
