-- "The policy is built by three operations, each giving the next policy: empty, add a region, add a field" (document 01, "Policy"),
-- with the numbers of the refusals and their order (document 01, "Order of the check, and its numbers").
use Rattle.std.specs.Prelude.{ℕ, ◌+◌, cond, leb, eqb, set, replicate}
use Rattle.v8.specs.Numbers.{acceptance, full, bad_size, bad_policy}
use Rattle.policy.specs.Policy.{no_field, count_of, place_of, size_ok, field_fits, policy_ok}
use Rattle.policy.specs.declared.Field.{Field}
use Rattle.policy.specs.declared.Policy.{Policy}
use Rattle.policy.specs.declared.Built.{Built}

-- "empty": no regions, and 0 at every place
abbrev pub empty_policy : Policy
empty_policy =
    record {
      regions = record { count = 0; sizes = replicate 8 0; fields = replicate 8 0 };
      fields = replicate 128 no_field;
    }

-- the policy with one region more, without fields
abbrev pub with_region : Policy → ℕ → Policy
with_region p size =
    record {
      regions =
          record {
            count = p.regions.count + 1;
            sizes = set p.regions.sizes p.regions.count size;
            fields = set p.regions.fields p.regions.count 0;
          };
      fields = p.fields;
    }

-- the policy with f written at a place, as the last field of region r
abbrev pub with_field_at : Policy → ℕ → ℕ → Field → Policy
with_field_at p r place f =
    record {
      regions =
          record {
            count = p.regions.count;
            sizes = p.regions.sizes;
            fields = set p.regions.fields r (count_of p r + 1);
          };
      fields = set p.fields place f;
    }

-- the policy with one field more in region r
abbrev pub with_field : Policy → ℕ → Field → Policy
with_field p r f = with_field_at p r (place_of r (count_of p r)) f

-- "Both adds first give 20 if the policy handed in breaks a rule. Then, in order: add a region, 18 full, 19 size"
unfoldable pub region_number : Policy → ℕ → ℕ
region_number p size =
    cond (policy_ok p)
    (cond (leb 8 p.regions.count) full
    (cond (size_ok size) acceptance
    bad_size))
    bad_policy

-- ".. add a field, 20 no such region, 18 full, 20 any other rule"
unfoldable pub field_number : Policy → ℕ → Field → ℕ
field_number p r f =
    cond (policy_ok p)
    (cond (leb p.regions.count r) bad_policy
    (cond (leb 16 (count_of p r)) full
    (cond (field_fits p r (count_of p r) f) acceptance
    bad_policy)))
    bad_policy

-- the next policy; "A refusal gives back the policy given."
unfoldable pub built : Policy → ℕ → Policy → Built
built given number next =
    cond (eqb number acceptance) (record { policy = next; number = acceptance }) (record { policy = given; number = number })

-- "add a region"
abbrev pub add_region_of : Policy → ℕ → Built
add_region_of p size = built p (region_number p size) (with_region p size)

-- "add a field"
abbrev pub add_field_of : Policy → ℕ → Field → Built
add_field_of p r f = built p (field_number p r f) (with_field p r f)
