-- Each part of the field is read from its place among the field's sixteen bytes; lo and hi in excess form.
use Rattle.bundle_layout.specs.Layout.{field_read}
use Rattle.bundle_open.proofs.building.field_read.Goals as goal

pub returns : goal.returns
unfolding field_read
returns c =
    rw (
      c.excess-2.ensures,
      c.word_at-2.ensures,
      c.excess.ensures,
      c.word_at.ensures,
      c.half_at-2.ensures.0,
      c.half_at.ensures.0,
      c.byte_at-3.ensures.0,
      c.byte_at-2.ensures.0,
      c.byte_at.ensures.0,
      c.field_place-at.ensures.0,
    )
