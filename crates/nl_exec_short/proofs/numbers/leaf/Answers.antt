-- What a node without parts gives.
use Rattle.std.proofs.Common.{refl, ap, ◌∙◌, sym, arith}
use Rattle.std.proofs.lemmas.Option.{IfSome_then}
use Rattle.nl_tree.specs.Tree.{span}
use Rattle.nl_value.specs.Plain.{PlainNumber}
use Rattle.nl_exec_meaning.specs.Code.{node_at, name_of}
use Rattle.nl_exec_meaning.specs.Cases as case
use Rattle.nl_exec_meaning.specs.Variables.{local_value}
use Rattle.nl_exec_meaning.specs.Meaning.{limited}
use Rattle.nl_exec_meaning.specs.Seen.{state_of}
use Rattle.nl_exec_short.proofs.Words.{given, number_found}
use Rattle.nl_exec_short.proofs.numbers.leaf.Goals as goal

pub returns-in-Number : goal.returns-in-Number
returns-in-Number g c room n some =
    let code = c.args.code.now in
    let s = state_of code.names c.args.hands.now n in
    let t = node_at code c.args.node in
    given code.program t s (case.Constant (PlainNumber c.in-Number.number)) (PlainNumber c.in-Number.number) c.in-Number.ensures.op (λ prev. refl) room (omega (arith, some))

pub returns-in-Local : goal.returns-in-Local
returns-in-Local g c = IfSome_then c.number_in.result c.number_in.ensures (λ number is room n some.
    let code = c.args.code.now in
    let s = state_of code.names c.args.hands.now n in
    let t = node_at code c.args.node in
    let name = name_of code.names c.in-Local.id in
    let there = sym c.local.ensures.value ∙ is in
    given code.program t s (case.Local name) (PlainNumber number) c.in-Local.ensures.op (λ prev. number_found (local_value name s.locals) (span t) s number there) room (omega (arith, some)))

pub returns-in-Global : goal.returns-in-Global
returns-in-Global g c = IfSome_then c.number_in-in-Global.result c.number_in-in-Global.ensures (λ number is room n some.
    let code = c.args.code.now in
    let s = state_of code.names c.args.hands.now n in
    let t = node_at code c.args.node in
    let there = sym c.global.ensures.value ∙ is in
    given code.program t s (case.Global c.in-Global.slot) (PlainNumber number) c.in-Global.ensures.op (λ prev. number_found _ (span t) s number there) room (omega (arith, some)))

pub returns-in-Owned : goal.returns-in-Owned
returns-in-Owned g c = IfSome_then c.number_owned.result c.number_owned.ensures (λ number is room n some.
    let code = c.args.code.now in
    let s = state_of code.names c.args.hands.now n in
    let t = node_at code c.args.node in
    given code.program t s (case.Owned c.in-Owned.runs c.in-Owned.slot) (PlainNumber number) c.in-Owned.ensures.op
    (λ prev. ap (limited (span t)) (is code n (span t))) room (omega (arith, some)))

pub returns-in-Aside : goal.returns-in-Aside
returns-in-Aside g c = IfSome_then c.number_apart.result c.number_apart.ensures (λ number is room n some.
    let code = c.args.code.now in
    let s = state_of code.names c.args.hands.now n in
    let t = node_at code c.args.node in
    given code.program t s (case.Aside c.in-Aside.runs c.in-Aside.which) (PlainNumber number) c.in-Aside.ensures.op
    (λ prev. ap (limited (span t)) (is code n (span t))) room (omega (arith, some)))
