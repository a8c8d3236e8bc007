-- The document of each experiment is plain and at most three deep, where its keys ascend: then what stands at a key is all that stands there.
use Rattle.std.proofs.Common.{◌≡◌, ◌≤◌, ℕ, suc, ℤ, Bool, true, false, List, [], ◌∷◌, ◌++◌, Option, Some, None, Ok, Ordering, Less, Equal, Greater, refl, sym, ap, subst, ◌∙◌, bytes_eq, arith, cond}
use Rattle.std.specs.Prelude.{◌+◌, ◌||◌, ◌&&◌, not, filter, int_lt, is_some, pos}
use Rattle.std.specs.Cmp.Lexicographic.{slice_cmp}
use Rattle.std.specs.Ordering.{match_ordering, nat_cmp}
use Rattle.toml.specs.Data.{Data, table, array, Items, no_items, item, Members, no_members, member, get_member, is_before, is_sorted, items_are_sorted, members_are_sorted}
use Rattle.nl_fixed.specs.Nouns.{Bytes, Name, Names, Texts}
use Rattle.nl_experiment_fields.proofs.Binds.{from_bind, passed, told_ok}
use Rattle.nl_experiment_fields.specs.Entries.{all_steps_given, choice_by, choice_in, entries_from, entry_by, globals_at, in_entry, is_given, listed_in, right_number, setting_in, settings_in, stepped_in, stepped_number, steps_given, table_at, tables_in, values_in, varied_name, vary_at, world_at, world_in}
use Rattle.nl_experiment_fields.specs.File.{fields_in, head_in, measures_in, scripts_in}
use Rattle.nl_experiment_fields.specs.Keys.{KeyRow, budget_key, entry_keys, every_step_key, format_in, format_key, from_key, globals_key, go_key, in_world, is_known, key_rows, known_in, max_pxcor_key, max_pycor_key, measure_when_key, metrics_key, min_pxcor_key, min_pycor_key, name_key, names_of, repetitions_key, seed_key, sequential_key, setup_key, step_key, steps_key, to_key, until_key, values_key, vary_key, world_key, world_keys, wrap_x_key, wrap_y_key}
use Rattle.nl_experiment_fields.specs.Names.{lowered}
use Rattle.nl_experiment_fields.specs.Reading.{kind_of_literal}
use Rattle.nl_experiment_fields.specs.declared.fields.Fields.{Fields}
use Rattle.nl_experiment_keys.specs.Reading.{◌>>=◌, all_known, each_item, is_among, items_in, keys_in, least_unknown, members_in, none_unknown, only_if, required, text_in, texts_in, told_at, truth_in, usual_or, whole_in}
use Rattle.nl_experiment_keys.specs.Rows.{TextRow, TruthRow, WholeRow, maybe_text_at, required_text_at, some_text_in, text_at, texts_at, truth_at, whole_at}
use Rattle.nl_experiment_keys.specs.declared.faults.PlanKind.TheVariants.{BadLiteral}
use Rattle.nl_experiment_sweep.specs.Varied.{PlainSetting}
use Rattle.nl_experiment_sweep.specs.declared.varied.Choice.{Choice}
use Rattle.nl_experiment_sweep.specs.declared.varied.Vary.{Vary}
use Rattle.nl_experiment_sweep.specs.declared.worlds.World.{World}
use Rattle.nl_experiment_migrated.proofs.Fitting.{Fit, FitsAt, FitsBy, ItemsFit, MembersFit, array_fits, array_is, item_fits, kind_fits, looser, member_fits, members_fit, one_holds, required_fits, right_number_fits, some_text_fits, table_fits, table_is, text_fits, texts_fit, truth_fits, usual_fits, usual_read, values_fit, whole_fits}
use Rattle.nl_experiment_migrated.proofs.Saying.{first_of_both, from_known, ok_ahead, second_of_both}

-- ---- rows

module _ (ms : Members) where
  whole_row : (before : Bytes) (row : WholeRow) (z : ℤ) → whole_at before row ms ≡ Ok z → FitsAt 0 ms row.name
  whole_row before row z is d at =
      usual_fits 0 (before ++ row.name) row.usual (whole_in row.least row.most) (get_member row.name ms) z d (whole_fits row.least row.most) is at

  truth_row : (before : Bytes) (row : TruthRow) (b : Bool) → truth_at before row ms ≡ Ok b → FitsAt 0 ms row.name
  truth_row before row b is d at = usual_fits 0 (before ++ row.name) row.usual truth_in (get_member row.name ms) b d truth_fits is at

  text_row : (row : TextRow) (text : Bytes) → text_at row ms ≡ Ok text → FitsAt 0 ms row.name
  text_row row text is d at = usual_fits 0 row.name row.usual text_in (get_member row.name ms) text d text_fits is at

  required_text : (key : Name) (text : Bytes) → required_text_at key ms ≡ Ok text → FitsAt 0 ms key
  required_text key text is d at = required_fits 0 key text_in (get_member key ms) text d text_fits is at

  maybe_text : (key : Name) (text : Option Bytes) → maybe_text_at key ms ≡ Ok text → FitsAt 0 ms key
  maybe_text key text is d at = usual_fits 0 key None some_text_in (get_member key ms) text d some_text_fits is at

  texts_row : (key : Name) (texts : Texts) → texts_at key ms ≡ Ok texts → FitsAt 1 ms key
  texts_row key texts is d at = usual_fits 1 key [] texts_in (get_member key ms) texts d texts_fit is at

  looser_at : (n m : ℕ) (key : Name) → n ≤ m → FitsAt n ms key → FitsAt m ms key
  looser_at n m key more fits d at = looser n m d more (fits d at)

  not_given : (n : ℕ) (key : Name) → is_given key ms ≡ false → FitsAt n ms key
  not_given n key none d at =
      let there : is_given key ms ≡ true = ap is_some at in
      absurd (cc)

-- ---- inner tables

found_by : (o : Ordering) (d e : Data) (found : Option Data) → is_sorted e ≡ true → (found ≡ Some d → is_sorted d ≡ true)
    → match_ordering o found (Some e) found ≡ Some d → is_sorted d ≡ true
found_by Less d e found one next is = next is
found_by Equal d e found one next is = let same : e ≡ d = cc in subst (λ d. is_sorted d ≡ true) same one
found_by Greater d e found one next is = next is

-- what stands in a sorted table is sorted
found_sorted : (key : Name) (ms : Members) (d : Data) → members_are_sorted ms ≡ true → get_member key ms ≡ Some d → is_sorted d ≡ true
found_sorted key no_members d sorted is = absurd (cc)
found_sorted key (member k e rest) d sorted is =
    let front : (is_before k rest && is_sorted e) ≡ true = first_of_both (is_before k rest && is_sorted e) (members_are_sorted rest) sorted in
    found_by (slice_cmp nat_cmp key k) d e (get_member key rest) (second_of_both (is_before k rest) (is_sorted e) front)
    (found_sorted key rest d (second_of_both (is_before k rest && is_sorted e) (members_are_sorted rest) sorted)) is

table_row : (n : ℕ) (ms inner : Members) (key : Name) → members_are_sorted ms ≡ true → table_at key ms ≡ Ok inner
    → (members_are_sorted inner ≡ true → MembersFit n inner) → FitsAt (suc n) ms key
table_row n ms inner key sorted is fits d at =
    let same : d ≡ table inner = table_is d inner (usual_read key no_members members_in (get_member key ms) inner d is at) in
    let ascends : members_are_sorted inner ≡ true = ap is_sorted (sym same) ∙ found_sorted key ms d sorted at in
    subst (Fit (suc n)) (sym same) (table_fits n inner (fits ascends))

unprefixed : (before : Bytes) (found : Option Bytes) (x : Unit {0}) → none_unknown before found ≡ Ok x → none_unknown [] found ≡ Ok x
unprefixed before None x is = is
unprefixed before (Some key) x is = absurd (cc)

-- ---- `world`

world_fits : (ms : Members) (w : World) → members_are_sorted ms ≡ true → world_in ms ≡ Ok w → MembersFit 0 ms
world_fits ms w sorted is =
    ok_ahead (all_known in_world world_keys ms) _ w (MembersFit 0 ms) (λ x known a.
    ok_ahead (whole_at in_world min_pxcor_key ms) _ w (MembersFit 0 ms) (λ min_x one b.
    ok_ahead (whole_at in_world max_pxcor_key ms) _ w (MembersFit 0 ms) (λ max_x two c.
    ok_ahead (whole_at in_world min_pycor_key ms) _ w (MembersFit 0 ms) (λ min_y three e.
    ok_ahead (whole_at in_world max_pycor_key ms) _ w (MembersFit 0 ms) (λ max_y four g.
    ok_ahead (truth_at in_world wrap_x_key ms) _ w (MembersFit 0 ms) (λ wrap_x five h.
    ok_ahead (truth_at in_world wrap_y_key ms) _ w (MembersFit 0 ms) (λ wrap_y six i.
    members_fit 0 world_keys ms sorted (from_known world_keys ms x (unprefixed in_world (least_unknown world_keys (keys_in ms)) x known))
    (one_holds (FitsAt 0 ms) world_keys (
      whole_row ms in_world min_pxcor_key min_x one,
      (
        whole_row ms in_world max_pxcor_key max_x two,
        (
          whole_row ms in_world min_pycor_key min_y three,
          (
            whole_row ms in_world max_pycor_key max_y four,
            (
              truth_row ms in_world wrap_x_key wrap_x five,
              (truth_row ms in_world wrap_y_key wrap_y six, tt),
            ),
          ),
        ),
      ),
    ))) h) g) e) c) b) a) is

-- ---- `globals`

setting_fits : (others : Names) (name : Name) (d : Data) (x : PlainSetting) → setting_in others name d ≡ Ok x → Fit 0 d
setting_fits others name d x is = from_bind (kind_of_literal d) _ x (Fit 0 d) (λ kind one rest. kind_fits d kind one) is

settings_fit : (others : Names) (ms : Members) (xs : List PlainSetting) → settings_in others ms ≡ Ok xs → MembersFit 0 ms
settings_fit others no_members xs is = (refl, omega arith)
settings_fit others (member k d rest) xs is =
    ok_ahead (told_at _ (setting_in others (lowered k) d)) _ xs (MembersFit 0 (member k d rest)) (λ x one more.
    ok_ahead (settings_in (others ++ lowered k ∷ []) rest) _ xs (MembersFit 0 (member k d rest)) (λ ys two done.
    member_fits 0 k d rest (setting_fits others (lowered k) d x (told_ok _ (setting_in others (lowered k) d) x one))
    (settings_fit (others ++ lowered k ∷ []) rest ys two)) more) is

-- ---- an entry of `vary`

abbrev ChoiceFits : Members → Type 0
ChoiceFits ms = FitsAt 1 ms values_key × FitsAt 1 ms from_key × FitsAt 1 ms step_key × FitsAt 1 ms to_key

none_of : (a b c : Bool) → not (a || b || c) ≡ true → (a ≡ false) × (b ≡ false) × (c ≡ false)
none_of true b c is = absurd (cc)
none_of false true c is = absurd (cc)
none_of false false true is = absurd (cc)
none_of false false false is = (refl, refl, refl)

listed_fits : (ms : Members) (d : Data) (ds : Items) → get_member values_key ms ≡ Some d → values_in d ≡ Ok ds → not (steps_given ms) ≡ true → ChoiceFits ms
listed_fits ms d ds there is alone =
    let (no_from, no_step, no_to) = none_of (is_given from_key ms) (is_given step_key ms) (is_given to_key ms) alone in (
      λ e at. (let same : d ≡ e = (let both : Some d ≡ Some e = sym there ∙ at in cc) in subst (Fit 1) same (values_fit d ds is)),
      not_given ms 1 from_key no_from,
      not_given ms 1 step_key no_step,
      not_given ms 1 to_key no_to,
    )

number_row : (before : Bytes) (name key : Name) (ms : Members) (z : ℤ) → stepped_number before name key ms ≡ Ok z → FitsAt 1 ms key
number_row before name key ms z is =
    looser_at ms 0 1 key (omega arith) (λ d at. required_fits 0 (before ++ key) (right_number name) (get_member key ms) z d (right_number_fits name) is at)

stepped_fits : (before : Bytes) (name : Name) (ms : Members) (c : Choice) → get_member values_key ms ≡ None → stepped_in before name ms ≡ Ok c → ChoiceFits ms
stepped_fits before name ms c none is =
    ok_ahead (stepped_number before name from_key ms) _ c (ChoiceFits ms) (λ from one a.
    ok_ahead (stepped_number before name step_key ms) _ c (ChoiceFits ms) (λ step two b.
    ok_ahead (told_at (before ++ step_key) (only_if (int_lt (pos 0) step) BadLiteral)) _ c (ChoiceFits ms) (λ up three e.
    ok_ahead (stepped_number before name to_key ms) _ c (ChoiceFits ms) (λ to four g. (
      not_given ms 1 values_key (ap is_some none),
      number_row before name from_key ms from one,
      number_row before name step_key ms step two,
      number_row before name to_key ms to four,
    )) e) b) a) is

choice_fits : (before : Bytes) (name : Name) (ms : Members) (o : Option Data) (c : Choice) → get_member values_key ms ≡ o → choice_by before name ms o ≡ Ok c → ChoiceFits ms
choice_fits before name ms (Some d) c there is =
    from_bind (values_in d) _ c (ChoiceFits ms) (λ ds one a.
    from_bind (only_if (not (steps_given ms)) BadLiteral) _ c (ChoiceFits ms) (λ x two b.
    listed_fits ms d ds there one (passed (not (steps_given ms)) BadLiteral x two)) a)
    (told_ok (before ++ values_key) (values_in d >>= λ ds. only_if (not (steps_given ms)) BadLiteral >>= λ one. listed_in name ds) c is)
choice_fits before name ms None c there is =
    ok_ahead (told_at (before ++ values_key) (only_if (all_steps_given ms) BadLiteral)) _ c (ChoiceFits ms) (λ all one a. stepped_fits before name ms c there a) is

varied_fits : (others : Names) → FitsBy 0 (varied_name others)
varied_fits others d x is = from_bind (text_in d) _ x (Fit 0 d) (λ text one rest. text_fits d text one) is

entry_fits : (before : Bytes) (others : Names) (ms : Members) (v : Vary) → members_are_sorted ms ≡ true → entry_by before others ms ≡ Ok v → MembersFit 1 ms
entry_fits before others ms v sorted is =
    ok_ahead (all_known before entry_keys ms) _ v (MembersFit 1 ms) (λ x known a.
    ok_ahead (told_at (before ++ name_key) (required (varied_name others) (get_member name_key ms))) _ v (MembersFit 1 ms) (λ name one b.
    ok_ahead (choice_in before name ms) _ v (MembersFit 1 ms) (λ choice two c.
    let named : FitsAt 0 ms name_key = (λ d at. required_fits 0 (before ++ name_key) (varied_name others) (get_member name_key ms) name d (varied_fits others) one at) in
    let (values, from, step, to) = choice_fits before name ms (get_member values_key ms) choice refl two in
    members_fit 1 entry_keys ms sorted (from_known entry_keys ms x (unprefixed before (least_unknown entry_keys (keys_in ms)) x known))
    (one_holds (FitsAt 1 ms) entry_keys (looser_at ms 0 1 name_key (omega arith) named, (values, (from, (step, (to, tt))))))) b) a) is

-- ---- `vary`

entries_fit : (number : ℕ) (others : Names) (tables : List Members) (vs : List Vary) (ds : Items) → items_are_sorted ds ≡ true
    → each_item members_in ds ≡ Ok tables → entries_from number others tables ≡ Ok vs → ItemsFit 2 ds
entries_fit number others tables vs no_items sorted are is = (refl, omega arith)
entries_fit number others tables vs (item d ds) sorted are is =
    from_bind (members_in d) _ tables (ItemsFit 2 (item d ds)) (λ ms one a.
    from_bind (each_item members_in ds) _ tables (ItemsFit 2 (item d ds)) (λ rest two b.
    let same : ms ∷ rest ≡ tables = cc in
    let here : d ≡ table ms = table_is d ms one in
    let ascends : members_are_sorted ms ≡ true = ap is_sorted (sym here) ∙ first_of_both (is_sorted d) (items_are_sorted ds) sorted in
    let read : entries_from number others (ms ∷ rest) ≡ Ok vs = ap (entries_from number others) same ∙ is in
    ok_ahead (entry_by (in_entry number) others ms) _ vs (ItemsFit 2 (item d ds)) (λ v three c.
    ok_ahead (entries_from (number + 1) (others ++ v.name ∷ []) rest) _ vs (ItemsFit 2 (item d ds)) (λ ws four e.
    item_fits 2 d ds (subst (Fit 2) (sym here) (table_fits 1 ms (entry_fits (in_entry number) others ms v ascends three)))
    (entries_fit (number + 1) (others ++ v.name ∷ []) rest ws ds (second_of_both (is_sorted d) (items_are_sorted ds) sorted) two four)) c) read) a) are

vary_row : (ms : Members) (vs : List Vary) → members_are_sorted ms ≡ true → vary_at ms ≡ Ok vs → FitsAt 3 ms vary_key
vary_row ms vs sorted is d at =
    ok_ahead (told_at vary_key (usual_or [] tables_in (get_member vary_key ms))) _ vs (Fit 3 d) (λ tables one a.
    from_bind (items_in d) _ tables (Fit 3 d) (λ ds two b.
    let same : d ≡ array ds = array_is d ds two in
    let ascend : items_are_sorted ds ≡ true = ap is_sorted (sym same) ∙ found_sorted vary_key ms d sorted at in
    subst (Fit 3) (sym same) (array_fits 2 ds (entries_fit 1 [] tables vs ds ascend b a)))
    (usual_read vary_key [] tables_in (get_member vary_key ms) tables d one at)) is

-- ---- a document

or_here : (b c e : Bool) → (c ≡ true → e ≡ true) → (b || c) ≡ true → (b || e) ≡ true
or_here true c e next is = refl
or_here false c e next is = next is

or_later : (b e : Bool) → e ≡ true → (b || e) ≡ true
or_later true e is = refl
or_later false e is = is

kept_by : (b : Bool) (row : KeyRow) (kept rows : List KeyRow) (k : Name) → (is_among k (names_of kept) ≡ true → is_among k (names_of rows) ≡ true)
    → is_among k (names_of (cond b (row ∷ kept) kept)) ≡ true → is_among k (names_of (row ∷ rows)) ≡ true
kept_by true row kept rows k next is = or_here (bytes_eq row.name k) (is_among k (names_of kept)) (is_among k (names_of rows)) next is
kept_by false row kept rows k next is = or_later (bytes_eq row.name k) (is_among k (names_of rows)) (next is)

-- a key of some rows is one of all
among_all : (p : KeyRow → Bool) (rows : List KeyRow) (k : Name) → is_among k (names_of (filter p rows)) ≡ true → is_among k (names_of rows) ≡ true
among_all p [] k is = is
among_all p (row ∷ rows) k is = kept_by (p row) row (filter p rows) rows k (among_all p rows k) is

module _ (ms : Members) where
  abbrev HeadFits : Type 0
  HeadFits = FitsAt 0 ms format_key.name × FitsAt 0 ms name_key × FitsAt 0 ms seed_key.name × FitsAt 0 ms repetitions_key.name × FitsAt 0 ms sequential_key.name

  abbrev ScriptsFit : Type 0
  ScriptsFit = FitsAt 0 ms setup_key.name × FitsAt 0 ms go_key.name × FitsAt 0 ms until_key

  abbrev MeasuresFit : Type 0
  MeasuresFit = FitsAt 0 ms steps_key.name × FitsAt 0 ms every_step_key.name × FitsAt 0 ms measure_when_key × FitsAt 0 ms budget_key.name × FitsAt 1 ms metrics_key

  world_row : (w : World) → members_are_sorted ms ≡ true → world_at ms ≡ Ok w → FitsAt 1 ms world_key
  world_row w sorted is =
      ok_ahead (table_at world_key ms) _ w (FitsAt 1 ms world_key) (λ inner one a. table_row 0 ms inner world_key sorted one (λ ascends. world_fits inner w ascends a)) is

  globals_row : (xs : List PlainSetting) → members_are_sorted ms ≡ true → globals_at ms ≡ Ok xs → FitsAt 1 ms globals_key
  globals_row xs sorted is =
      ok_ahead (table_at globals_key ms) _ xs (FitsAt 1 ms globals_key) (λ inner one a. table_row 0 ms inner globals_key sorted one (λ ascends. settings_fit [] inner xs a)) is

  -- as all rows have them
  rows_fit : HeadFits → ScriptsFit → MeasuresFit → FitsAt 1 ms world_key → FitsAt 1 ms globals_key → FitsAt 3 ms vary_key
      → (k : Name) → is_among k (names_of key_rows) ≡ true → FitsAt 3 ms k
  rows_fit (format, name, seed, repetitions, sequential) (setup, go, until) (steps, every_step, condition, budget, metrics) world globals vary =
      one_holds (FitsAt 3 ms) (names_of key_rows) (
        flat format_key.name format,
        (
          flat name_key name,
          (
            flat seed_key.name seed,
            (
              flat repetitions_key.name repetitions,
              (
                flat sequential_key.name sequential,
                (
                  flat setup_key.name setup,
                  (
                    flat go_key.name go,
                    (
                      flat until_key until,
                      (
                        flat steps_key.name steps,
                        (
                          flat every_step_key.name every_step,
                          (
                            flat measure_when_key condition,
                            (
                              flat budget_key.name budget,
                              (
                                looser_at ms 1 3 metrics_key (omega arith) metrics,
                                (
                                  looser_at ms 1 3 world_key (omega arith) world,
                                  (
                                    looser_at ms 1 3 globals_key (omega arith) globals,
                                    (vary, tt),
                                  ),
                                ),
                              ),
                            ),
                          ),
                        ),
                      ),
                    ),
                  ),
                ),
              ),
            ),
          ),
        ),
      )
    where
      flat : (key : Name) → FitsAt 0 ms key → FitsAt 3 ms key
      flat key fits = looser_at ms 0 3 key (omega arith) fits

  pub document_fits : (f : Fields) → members_are_sorted ms ≡ true → fields_in ms ≡ Ok f → MembersFit 3 ms
  document_fits f sorted is =
      ok_ahead (all_known [] (known_in ms) ms) _ f (MembersFit 3 ms) (λ x known rest_one.
      ok_ahead (head_in ms) _ f (MembersFit 3 ms) (λ head read_head rest_two.
      ok_ahead (scripts_in ms) _ f (MembersFit 3 ms) (λ scripts read_scripts rest_three.
      ok_ahead (measures_in ms) _ f (MembersFit 3 ms) (λ measures read_measures rest_four.
      ok_ahead (world_at ms) _ f (MembersFit 3 ms) (λ world read_world rest_five.
      ok_ahead (globals_at ms) _ f (MembersFit 3 ms) (λ globals read_globals rest_six.
      ok_ahead (vary_at ms) _ f (MembersFit 3 ms) (λ vary read_vary rest_seven.
      let heads : HeadFits =
      ok_ahead (whole_at [] format_key ms) _ head HeadFits (λ format one a.
      ok_ahead (required_text_at name_key ms) _ head HeadFits (λ name two b.
      ok_ahead (whole_at [] seed_key ms) _ head HeadFits (λ seed three c.
      ok_ahead (whole_at [] repetitions_key ms) _ head HeadFits (λ repetitions four e.
      ok_ahead (truth_at [] sequential_key ms) _ head HeadFits (λ sequential five g. (
        whole_row ms [] format_key format one,
        required_text ms name_key name two,
        whole_row ms [] seed_key seed three,
        whole_row ms [] repetitions_key repetitions four,
        truth_row ms [] sequential_key sequential five,
      )) e) c) b) a) read_head in
      let texts : ScriptsFit =
      ok_ahead (text_at setup_key ms) _ scripts ScriptsFit (λ setup one a.
      ok_ahead (text_at go_key ms) _ scripts ScriptsFit (λ go two b.
      ok_ahead (maybe_text_at until_key ms) _ scripts ScriptsFit (λ until three c. (
        text_row ms setup_key setup one,
        text_row ms go_key go two,
        maybe_text ms until_key until three,
      )) b) a) read_scripts in
      let counts : MeasuresFit =
      ok_ahead (whole_at [] steps_key ms) _ measures MeasuresFit (λ steps one a.
      ok_ahead (truth_at [] every_step_key ms) _ measures MeasuresFit (λ every_step two b.
      ok_ahead (maybe_text_at measure_when_key ms) _ measures MeasuresFit (λ condition three c.
      ok_ahead (whole_at [] budget_key ms) _ measures MeasuresFit (λ budget four e.
      ok_ahead (texts_at metrics_key ms) _ measures MeasuresFit (λ metrics five g. (
        whole_row ms [] steps_key steps one,
        truth_row ms [] every_step_key every_step two,
        maybe_text ms measure_when_key condition three,
        whole_row ms [] budget_key budget four,
        texts_row ms metrics_key metrics five,
      )) e) c) b) a) read_measures in
      members_fit 3 (known_in ms) ms sorted (from_known (known_in ms) ms x known) (λ k among.
      rows_fit heads texts counts (world_row world sorted read_world) (globals_row globals sorted read_globals) (vary_row ms vary sorted read_vary)
      k (among_all (is_known (format_in ms)) key_rows k among))) rest_six) rest_five) rest_four) rest_three) rest_two) rest_one) is
