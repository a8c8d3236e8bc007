use Rattle.std.proofs.Common.{◌≡◌, ℕ, List, [], ◌∷◌, ◌++◌, ◌+◌, true, false, arith, ap, sym, subst, ◌∙◌}
use Rattle.std.proofs.lemmas.Grind.{common_steps}
use Rattle.std.specs.Prelude.{is_some, bytes_eq}
use Rattle.std.specs.HashMap.{get_by}
use Rattle.nl_decl_outline.specs.Declarations.{owning}
use Rattle.nl_decl_outline.specs.inner.Owners.{Knows}
use Rattle.nl_decl_outline.proofs.Owning.{updated}
use Rattle.nl_decl_outline.proofs.Known.{knows_again, knows_anew}
use Rattle.nl_decl_outline.specs.declared.owners.Owners.{Owners}
use Rattle.nl_decl_outline.proofs.owners.Owners.add.Goals.{then-not-contains_key+in_ok-insert, else-not-contains_key}
use Rattle.nl_decl_outline.proofs.owners.Owners.add.Goals as goal

pub returns : goal.returns
returns c = λ breeds known.
    let word : c.extend_from_slice.new.self.items ≡ owning c.args.plural.now = grind (arith, common_steps) in
    elim c.if-not-contains_key.branch [
      | then-not-contains_key+in_ok-insert w ↦
          let apart : false ≡ is_some (get_by (λ key. bytes_eq c.extend_from_slice.new.self.items key.items) c.args.self.now.places) = w.if-not-contains_key.ensures ∙ ap (λ (bs : List ℕ). is_some (get_by (λ key. bytes_eq bs key.items) c.args.self.now.places)) c.as_slice.ensures.value in
          let next : c.if-not-contains_key.self.count ≡ c.args.self.now.count = ap (λ (o : Owners). o.count) w.self-is in
          let put : c.if-not-contains_key.self.places ≡ w.insert.new.self = ap (λ (o : Owners). o.places) w.self-is in
          knows_anew breeds c.args.plural.now c.extend_from_slice.new.self.items c.args.self.now _ word known apart (ap (λ n. n + 1) next)
          (λ v. ap (get_by (λ key. bytes_eq v key.items)) put ∙ updated (λ key. key.items) c.extend_from_slice.new.self c.args.self.now.count c.args.self.now.places.entries w.insert.new.self.entries w.in_ok-insert.ensures.updates.3 w.in_ok-insert.ensures.updates.1 v)
      | else-not-contains_key w ↦
          let found : true ≡ is_some (get_by (λ key. bytes_eq c.extend_from_slice.new.self.items key.items) c.args.self.now.places) = w.if-not-contains_key.ensures ∙ ap (λ (bs : List ℕ). is_some (get_by (λ key. bytes_eq bs key.items) c.args.self.now.places)) c.as_slice.ensures.value in
          subst (λ (o : Owners). Knows (breeds ++ c.args.plural.now ∷ []) (record { places = o.places; count = o.count + 1 })) (sym w.self-is)
          (knows_again breeds c.args.plural.now c.extend_from_slice.new.self.items c.args.self.now word known found)
    ]
