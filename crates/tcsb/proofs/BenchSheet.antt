-- The bench sheet's rows marked P hold. Assumes nothing.
use mathlib.Core.Path.{refl}
use Rattle.lists.specs.Lists.{tab, over, all, any, least}
use Rattle.leb128.specs.Leb128.{field, value_of, closed, padded, field_read, groups}
use Rattle.clock.specs.Version.{fits_of, dependencies_to}
use Rattle.telegram.specs.Fields.{kind, counted, placed, part, sized, many}
use Rattle.telegram.specs.Reading.{names, list, entries, body, texts, fair_bytes, same_bytes, fair_at, fair, event_form}
use Rattle.store.specs.Orders.{insert_sorted, del_at, keep}
use Rattle.tcsb.specs.Internalizer.{place_of, translation_of, continues, our_entries, event_of}
use Rattle.tcsb.specs.Replica.{admitted, is_duplicate, is_stale, verdict_of, insert_all, recorded, receive_of, send_of, is_ready, delivered, first_ready, frontier_call}
use Rattle.tcsb.specs.BenchSheet.{Rows, nexts}

pub rows_hold : Rows
unfolding tab over all any least field value_of closed padded field_read groups fits_of dependencies_to kind counted placed part sized many names list entries body texts fair_bytes same_bytes fair_at fair event_form insert_sorted del_at keep place_of translation_of continues our_entries event_of admitted is_duplicate is_stale verdict_of insert_all recorded receive_of send_of is_ready delivered first_ready frontier_call nexts
rows_hold = record {
  greater = refl;
  less = refl;
  concurrent = refl;
  equal = refl;
  join_unchanged = refl;
  join_larger = refl;
  join_refused = refl;
  depends = refl;
  not_ready = refl;
  in_order = refl;
  lowest_place = refl;
  spelt_127 = refl;
  spelt_128 = refl;
  spelt_65535 = refl;
  spelt_65536 = refl;
  last_number = refl;
  too_large = refl;
  not_shortest = refl;
  list_ABC = refl;
  frontier_120 = refl;
  list_B = refl;
  same = refl;
}
