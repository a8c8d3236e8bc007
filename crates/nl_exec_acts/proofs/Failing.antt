-- What a refusal of a call comes to: the error of the text, or want of memory.
use Rattle.std.specs.Prelude.{◌≡◌, ◌≢◌, Err}
use Rattle.std.proofs.Common.{ap, sym, subst}
use Rattle.nl_listops_series.specs.Outcomes.{ListOutcome as Listed}
use Rattle.nl_listops_series.specs.declared.fail.ListFail.{ListFail}
use Rattle.nl_listops_series.specs.declared.fail.ListFail.TheVariants as list
use Rattle.nl_agentset_query.specs.Outcomes.{QueryOutcome as Queried}
use Rattle.nl_agentset_query.specs.declared.fail.QueryFail.{QueryFail}
use Rattle.nl_agentset_query.specs.declared.fail.QueryFail.TheVariants as query
use Rattle.nl_exec_acts.specs.declared.fail.ActFail.{ActFail}
use Rattle.nl_exec_acts.specs.Fails.{told_as, error_of_list, fail_of_list, error_of_query, fail_of_query}
use Rattle.nl_exec_acts.specs.Stage.{Gives}

pub list_refused : {X Y : Type 0} (seen : X → Y) (outcome : Listed Y) (why : ListFail) (fail : ActFail) → fail ≡ fail_of_list why → (why ≢ list.NoMemory → outcome ≡ Err why)
    → Gives seen (Err fail) (told_as error_of_list outcome)
list_refused {X} {Y} seen outcome list.NoMemory fail is given =
    subst (λ f. Gives {X = X} {Y = Y} seen (Err f) (told_as error_of_list outcome)) (sym is) tt
list_refused {X} {Y} seen outcome list.WrongType fail is given =
    subst (λ f. Gives {X = X} {Y = Y} seen (Err f) (told_as error_of_list outcome)) (sym is) (ap (told_as error_of_list) (given (λ same. cc)))
list_refused {X} {Y} seen outcome list.OutOfList fail is given =
    subst (λ f. Gives {X = X} {Y = Y} seen (Err f) (told_as error_of_list outcome)) (sym is) (ap (told_as error_of_list) (given (λ same. cc)))
list_refused {X} {Y} seen outcome list.Overflow fail is given =
    subst (λ f. Gives {X = X} {Y = Y} seen (Err f) (told_as error_of_list outcome)) (sym is) (ap (told_as error_of_list) (given (λ same. cc)))
list_refused {X} {Y} seen outcome list.ZeroDivide fail is given =
    subst (λ f. Gives {X = X} {Y = Y} seen (Err f) (told_as error_of_list outcome)) (sym is) (ap (told_as error_of_list) (given (λ same. cc)))
list_refused {X} {Y} seen outcome list.Domain fail is given =
    subst (λ f. Gives {X = X} {Y = Y} seen (Err f) (told_as error_of_list outcome)) (sym is) (ap (told_as error_of_list) (given (λ same. cc)))
list_refused {X} {Y} seen outcome list.TooFew fail is given =
    subst (λ f. Gives {X = X} {Y = Y} seen (Err f) (told_as error_of_list outcome)) (sym is) (ap (told_as error_of_list) (given (λ same. cc)))
list_refused {X} {Y} seen outcome list.TooLarge fail is given =
    subst (λ f. Gives {X = X} {Y = Y} seen (Err f) (told_as error_of_list outcome)) (sym is) (ap (told_as error_of_list) (given (λ same. cc)))

pub query_refused : {X Y : Type 0} (seen : X → Y) (outcome : Queried Y) (why : QueryFail) (fail : ActFail) → fail ≡ fail_of_query why → (why ≢ query.NoMemory → outcome ≡ Err why)
    → Gives seen (Err fail) (told_as error_of_query outcome)
query_refused {X} {Y} seen outcome query.NoMemory fail is given =
    subst (λ f. Gives {X = X} {Y = Y} seen (Err f) (told_as error_of_query outcome)) (sym is) tt
query_refused {X} {Y} seen outcome query.WrongType fail is given =
    subst (λ f. Gives {X = X} {Y = Y} seen (Err f) (told_as error_of_query outcome)) (sym is) (ap (told_as error_of_query) (given (λ same. cc)))
query_refused {X} {Y} seen outcome query.NoAgent fail is given =
    subst (λ f. Gives {X = X} {Y = Y} seen (Err f) (told_as error_of_query outcome)) (sym is) (ap (told_as error_of_query) (given (λ same. cc)))
query_refused {X} {Y} seen outcome query.OutOfWorld fail is given =
    subst (λ f. Gives {X = X} {Y = Y} seen (Err f) (told_as error_of_query outcome)) (sym is) (ap (told_as error_of_query) (given (λ same. cc)))
query_refused {X} {Y} seen outcome query.SamePoint fail is given =
    subst (λ f. Gives {X = X} {Y = Y} seen (Err f) (told_as error_of_query outcome)) (sym is) (ap (told_as error_of_query) (given (λ same. cc)))
query_refused {X} {Y} seen outcome query.Overflow fail is given =
    subst (λ f. Gives {X = X} {Y = Y} seen (Err f) (told_as error_of_query outcome)) (sym is) (ap (told_as error_of_query) (given (λ same. cc)))
query_refused {X} {Y} seen outcome query.Domain fail is given =
    subst (λ f. Gives {X = X} {Y = Y} seen (Err f) (told_as error_of_query outcome)) (sym is) (ap (told_as error_of_query) (given (λ same. cc)))
query_refused {X} {Y} seen outcome query.TooFew fail is given =
    subst (λ f. Gives {X = X} {Y = Y} seen (Err f) (told_as error_of_query outcome)) (sym is) (ap (told_as error_of_query) (given (λ same. cc)))
