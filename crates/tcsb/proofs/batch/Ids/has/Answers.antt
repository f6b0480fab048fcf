use mathlib.Core.Path.{◌≡◌, ◌∙◌}
use lib.ListN.{length}
use Rattle.std.proofs.Common.{rules}
use Rattle.lists.proofs.Laws.{length_mapped}
use Rattle.tcsb.proofs.Surveying.{has-taken}
use Rattle.tcsb.proofs.batch.Ids.has.Goals as goal

pub returns : goal.returns
returns c =
    let ids = c.args.self.now in
    let id = c.args.id in
    let long : length ids.at ≡ 256 = search (length_mapped, rules) in
    (c.contains.ensures.value ∙ has-taken ids id.idx.0 id.seq (record { places = long }) c.requires, record { places = long })
