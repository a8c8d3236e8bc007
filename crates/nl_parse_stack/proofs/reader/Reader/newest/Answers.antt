use Rattle.std.proofs.Common.{◌≡◌, arith, ◌-◌, List, [], ◌∷◌, length, take, subst}
use Rattle.nl_parse_reading.specs.declared.frames.Frame.{Frame}
use Rattle.nl_parse_reading.specs.inner.Reading.{frame_of, frames_onto, names_onto}
use Rattle.nl_parse_reading.proofs.Capped.{newest_of}
use Rattle.nl_parse_stack.proofs.reader.Reader.newest.Goals as goal

pub returns-in-len1-up-clause-stack : goal.returns-in-len1-up-clause-stack
returns-in-len1-up-clause-stack c =
    let e = c.args.self.now.inputs.now in
    let f = c.newest-item.result in
    let gs = c.as_slice.result.now in
    let top : List Frame → Type 0 = λ fs. frames_onto fs e [] ≡ frame_of (names_onto (take (length fs - 1) fs) e) f ∷ frames_onto (take (length fs - 1) fs) e [] in
    subst top c.as_slice.ensures.value (newest_of gs (length gs - 1) f e (omega (arith, c.in-len1-up.len_at_least)) c.newest-item.is)
