use Rattle.std.proofs.Common.{◌≡◌, ◌∙◌, ◌++◌, ℕ, sym, ap, subst}
use Rattle.std.specs.List.Sorted.{IsPermutation}
use Rattle.std.proofs.lemmas.List.{map-append}
use Rattle.std.proofs.lemmas.List.Sorted.{IsNonDecreasingBy-from_sort}
use Rattle.nl_store_lists.specs.Laws.{IsInOrder}
use Rattle.nl_store_lists.proofs.Rising.{rising-sorted}
use Rattle.nl_store_records.specs.Records.{record_at}
use Rattle.nl_index.specs.Index.{serial_at}
use Rattle.nl_store_lists.proofs.Walked.{rising-increasing}
use Rattle.nl_store_files.specs.Walks.{serials_of}
use Rattle.nl_store_files.proofs.filling.fill_both.Goals as goal

pub of_vec-requires : goal.of_vec-requires
of_vec-requires g c =
    let at = record_at c.args.records.now in
    let k = c.requires in
    let one : c.walk.new.into.items ≡ serials_of at k.ones = c.in_ok-walk.ensures.serials k.ones k.path k.short ∙ ap (λ x. x ++ serials_of at k.ones) c.emptied-list.ensures in
    let two : c.walk-2.new.into.items ≡ serials_of at (k.ones ++ k.others) =
    c.in_ok-walk-2.ensures.serials k.others k.path_2 k.short_2 ∙ ap (λ x. x ++ serials_of at k.others) one ∙ sym (map-append (serial_at at) k.ones k.others) in
    let perm = subst (λ x. IsPermutation x c.sort.new.self.items) two c.sort.ensures.permutation in
    let up = IsNonDecreasingBy-from_sort (λ (x : ℕ). x) c.sort.new.self.items c.in_ok-sort.ensures.sorted in
    rising-increasing c.sort.new.self.items (rising-sorted (serials_of at (k.ones ++ k.others)) c.sort.new.self.items k.once perm up).rises

pub returns-clause-list : goal.returns-clause-list
returns-clause-list g c ones others p q s t once =
    let at = record_at c.args.records.now in
    let one : c.walk.new.into.items ≡ serials_of at ones = c.in_ok-walk.ensures.serials ones p s ∙ ap (λ x. x ++ serials_of at ones) c.emptied-list.ensures in
    let two : c.walk-2.new.into.items ≡ serials_of at (ones ++ others) =
    c.in_ok-walk-2.ensures.serials others q t ∙ ap (λ x. x ++ serials_of at others) one ∙ sym (map-append (serial_at at) ones others) in
    let perm = subst (λ x. IsPermutation x c.sort.new.self.items) two c.sort.ensures.permutation in
    let up = IsNonDecreasingBy-from_sort (λ (x : ℕ). x) c.sort.new.self.items c.in_ok-sort.ensures.sorted in
    subst (IsInOrder (serials_of at (ones ++ others))) (sym c.of_vec.ensures) (rising-sorted (serials_of at (ones ++ others)) c.sort.new.self.items once perm up)
