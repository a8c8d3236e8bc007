use Rattle.std.proofs.Common.{◌≡◌, ◌∙◌, ◌++◌, sym, ap, subst}
use Rattle.std.specs.List.Sorted.{IsStrictlyIncreasing}
use Rattle.nl_store_records.specs.Records.{record_at}
use Rattle.nl_index.specs.Index.{serial_at}
use Rattle.nl_store_lists.proofs.Walked.{mapped-rising, rising-increasing}
use Rattle.nl_store_files.specs.Walks.{serials_of}
use Rattle.nl_store_files.proofs.filling.fill_in_order.Goals as goal

pub of_vec-requires : goal.of_vec-requires
of_vec-requires g c =
    let at = record_at c.args.records.now in
    let k = c.requires.path in
    let told : c.walk.new.into.items ≡ serials_of at k.keys = c.in_ok-walk.ensures.serials k.keys k.path k.short ∙ ap (λ x. x ++ serials_of at k.keys) c.emptied-list.ensures in
    subst IsStrictlyIncreasing (sym told) (rising-increasing (serials_of at k.keys) (mapped-rising (serial_at at) k.keys k.rises))
