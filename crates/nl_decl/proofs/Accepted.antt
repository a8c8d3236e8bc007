-- Declarations are accepted where no name is declared twice.
use Rattle.std.proofs.Common.{◌≡◌, ℕ, ◌+◌, ◌^◌, ◌<◌, ◌≤◌, true, not, ◌||◌, ◌&&◌, List, [], ◌++◌, length, None, All, sym, ap, subst, refl, arith, length-append}
use Rattle.std.specs.List.{list_all}
use Rattle.std.specs.Cmp.{second_so}
use Rattle.std.specs.Cmp.Derive.{both_true}
use Rattle.nl_words.specs.Table.{is_name}
use Rattle.nl_tree.specs.declared.declared.Breed.{Breed}
use Rattle.nl_tree.specs.declared.declared.Procedure.{Procedure}
use Rattle.nl_tree.specs.declared.declared.Declared.{Declared}
use Rattle.nl_tree.specs.Tokens.{Lexeme, IsLexeme}
use Rattle.nl_tree.specs.Vocabulary.{breed_terms, counted, procedure_term}
use Rattle.nl_tree.specs.Names.{are_distinct, are_apart, all_names, breeds_names, procedures_names, directions_fit, AreWidgets}
use Rattle.nl_decl_outline.specs.declared.declaration.Owner.TheVariants as owner
use Rattle.nl_decl_outline.specs.declared.declaration.Declaration.{Declaration}
use Rattle.nl_decl_outline.specs.Declarations.{AreDeclarations}
use Rattle.nl_decl.specs.Gathered.{Gathers}
use Rattle.nl_decl.specs.Claims.{claims, duplicate_in}
use Rattle.nl_decl.specs.Accepted.{AcceptedWhereNoneIsTwice}
use Rattle.nl_decl.proofs.Often.{often}
use Rattle.nl_decl.proofs.Linked.{sorts_in, globals_claimed, turtles_claimed, patches_claimed, links_claimed, breed_owned, breeds_claimed, procedures_claimed, EachBreed, EachProcedure}
use Rattle.nl_decl.proofs.MadeWords.{names_of, words_claimed}
use Rattle.nl_decl.proofs.Once.{built_in}
use Rattle.nl_decl.proofs.Differ.{IsClaimed, no_duplicate}
use Rattle.nl_decl.proofs.Named.{all_named, all_both, declarations_named, globals_named, owned_named, breeds_named, procedures_named, directions_named}
use Rattle.nl_decl.proofs.Sizes.{own_total, owned_total, breeds_names_length, total_within}

module _ (ls : List Lexeme) (ds : List Declaration) (widgets : List (List ℕ)) (d : Declared) (spelt : AreDeclarations ls ds) (g : Gathers widgets ds d) where
  all_claimed : IsClaimed d (claims ds)
  all_claimed = record {
    globals = λ n. omega (arith, ap (often n) g.1, globals_claimed n [] 0 0 ds);
    turtles = λ n. omega (arith, ap (often n) g.2, turtles_claimed ds ls n spelt);
    patches = λ n. omega (arith, ap (often n) g.3, patches_claimed ds ls n spelt);
    links = λ n. omega (arith, ap (often n) g.4, links_claimed ds ls n spelt);
    breeds = subst (EachBreed (claims ds)) (sym g.5) (breeds_claimed (claims ds) (sorts_in ds) ds (λ j s is n. breed_owned ds ls j s n spelt is) [] 0 ds refl refl);
    procedures = subst (EachProcedure (claims ds)) (sym g.6) (procedures_claimed (claims ds) [] 0 0 ds (λ c n. omega arith));
    words = λ n. omega (arith, ap (λ (bs : List Breed). often n (names_of (breed_terms 1 bs))) g.5, ap (λ (ps : List Procedure). often n (names_of (counted procedure_term 0 ps))) g.6, words_claimed n ds 1 0 0 [] 0 0 ds);
  }

  are_names : All IsLexeme ls → AreWidgets d.widgets → list_all is_name (all_names d) ≡ true
  are_names lexemes fit =
      let each = declarations_named [] ds ls spelt (all_named ls lexemes) in
      let widget = second_so (are_distinct d.widgets && are_apart d.widgets built_in) (list_all is_name d.widgets) fit.0 in
      let globals = subst (λ ns. list_all is_name ns ≡ true) (sym g.1) (globals_named ds each) in
      let turtles = subst (λ ns. list_all is_name ns ≡ true) (sym g.2) (owned_named owner.AllTurtles ds each) in
      let patches = subst (λ ns. list_all is_name ns ≡ true) (sym g.3) (owned_named owner.AllPatches ds each) in
      let links = subst (λ ns. list_all is_name ns ≡ true) (sym g.4) (owned_named owner.AllLinks ds each) in
      let breeds = subst (λ bs. list_all is_name (breeds_names bs) ≡ true) (sym g.5) (breeds_named ds each 0 ds each) in
      let procedures = subst (λ ps. list_all is_name (procedures_names ps) ≡ true) (sym g.6) (procedures_named 0 ds each) in
      let two = d.widgets ++ d.globals in
      let three = two ++ d.turtles_own in
      let four = three ++ d.patches_own in
      let five = four ++ d.links_own in
      all_both is_name (five ++ breeds_names d.breeds) (procedures_names d.procedures)
      (all_both is_name five (breeds_names d.breeds)
      (all_both is_name four d.links_own
      (all_both is_name three d.patches_own
      (all_both is_name two d.turtles_own
      (all_both is_name d.widgets d.globals widget globals)
      turtles) patches) links) breeds) procedures

  directions : directions_fit d ≡ true
  directions = subst (λ (bs : List Breed). list_all (λ b. b.link || not b.directed) bs ≡ true) (sym g.5) (directions_named ds 0 ds)

  few : length ls ≤ 4194304 → length d.widgets < 2 ^ 24 → length (all_names d) + length d.breeds + length d.procedures < 2 ^ 31
  few short widget =
      let two = d.widgets ++ d.globals in
      let three = two ++ d.turtles_own in
      let four = three ++ d.patches_own in
      let five = four ++ d.links_own in
      omega (
        arith,
        length-append (five ++ breeds_names d.breeds) (procedures_names d.procedures),
        length-append five (breeds_names d.breeds),
        length-append four d.links_own,
        length-append three d.patches_own,
        length-append two d.turtles_own,
        length-append d.widgets d.globals,
        breeds_names_length d.breeds,
        ap own_total g.5,
        ap (λ (bs : List Breed). length bs) g.5,
        owned_total ds 0 ds,
        ap length g.1,
        ap length g.2,
        ap length g.3,
        ap length g.4,
        ap (λ (ps : List Procedure). length (procedures_names ps)) g.6,
        ap (λ (ps : List Procedure). length ps) g.6,
        total_within ds [] 0 0 ds ls spelt,
      )

pub declared_fits : AcceptedWhereNoneIsTwice
declared_fits ls ds widgets d spelt lexemes short fit g free =
    let own = subst AreWidgets (sym g.0) fit in
    let alone = subst (λ ws. duplicate_in ws ds ≡ None) (sym g.0) free in (
      both_true (both_true (no_duplicate d ds (all_claimed ls ds widgets d spelt g) own alone) (are_names ls ds widgets d spelt g lexemes own)) (directions ls ds widgets d spelt g),
      few ls ds widgets d spelt g short own.1,
    )
