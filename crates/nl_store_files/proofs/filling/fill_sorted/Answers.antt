use Rattle.std.proofs.Common.{◌≡◌, ◌∙◌, ◌++◌, ℕ, sym, ap, subst}
use Rattle.std.specs.List.Sorted.{IsPermutation}
use Rattle.std.proofs.lemmas.List.Sorted.{IsNonDecreasingBy-from_sort}
use Rattle.nl_store_lists.specs.Laws.{IsInOrder}
use Rattle.nl_store_lists.proofs.Rising.{rising-sorted}
use Rattle.nl_store_records.specs.Records.{record_at}
use Rattle.nl_store_lists.proofs.Walked.{rising-increasing}
use Rattle.nl_store_files.specs.Walks.{serials_of}
use Rattle.nl_store_files.proofs.filling.fill_sorted.Goals as goal

pub of_vec-requires : goal.of_vec-requires
of_vec-requires g c =
    let at = record_at c.args.records.now in
    let k = c.requires.path in
    let told : c.walk.new.into.items ≡ serials_of at k.keys = c.in_ok-walk.ensures.serials k.keys k.path k.short ∙ ap (λ x. x ++ serials_of at k.keys) c.emptied-list.ensures in
    let perm = subst (λ x. IsPermutation x c.sort.new.self.items) told c.sort.ensures.permutation in
    let up = IsNonDecreasingBy-from_sort (λ (x : ℕ). x) c.sort.new.self.items c.in_ok-sort.ensures.sorted in
    rising-increasing c.sort.new.self.items (rising-sorted (serials_of at k.keys) c.sort.new.self.items k.once perm up).rises

pub returns-clause-list : goal.returns-clause-list
returns-clause-list g c ks w s once =
    let at = record_at c.args.records.now in
    let told : c.walk.new.into.items ≡ serials_of at ks = c.in_ok-walk.ensures.serials ks w s ∙ ap (λ x. x ++ serials_of at ks) c.emptied-list.ensures in
    let perm = subst (λ x. IsPermutation x c.sort.new.self.items) told c.sort.ensures.permutation in
    let up = IsNonDecreasingBy-from_sort (λ (x : ℕ). x) c.sort.new.self.items c.in_ok-sort.ensures.sorted in
    subst (IsInOrder (serials_of at ks)) (sym c.of_vec.ensures) (rising-sorted (serials_of at ks) c.sort.new.self.items once perm up)
