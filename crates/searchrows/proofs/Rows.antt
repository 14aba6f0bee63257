-- The table holds: the definitions give each row's outcome, by computation.
use mathlib.Core.Path.{refl}
use Rattle.v8.specs.Search.{all, lowest, first}
use Rattle.policy.specs.Element.{width_of, least_of, most_of}
use Rattle.policy.specs.Policy.{field_at, values_ok, field_ok, end_before, field_fits, field_at_ok, region_ok, policy_ok}
use Rattle.policy_search.specs.Find.{holds_in, stop_of, holder_in, find_in, looked_at, search_of}
use Rattle.searchrows.specs.Rows.{search_rows, refused_rows, list_rows}
use Rattle.searchrows.specs.Table.{Holds, TableHolds}

searches_hold : Holds search_rows
unfolding all lowest first width_of least_of most_of field_at values_ok field_ok end_before field_fits field_at_ok region_ok policy_ok holds_in stop_of holder_in looked_at search_of
searches_hold = refl

refusals_hold : Holds refused_rows
unfolding all lowest first width_of least_of most_of field_at values_ok field_ok end_before field_fits field_at_ok region_ok policy_ok holds_in stop_of holder_in looked_at search_of
refusals_hold = refl

untested_hold : Holds list_rows
unfolding lowest first width_of holds_in stop_of find_in looked_at
untested_hold = refl

pub table_holds : TableHolds
table_holds = record { searches = searches_hold; refusals = refusals_hold; untested = untested_hold }
