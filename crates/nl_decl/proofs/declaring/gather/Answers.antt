use Rattle.std.proofs.Common.{refl}
use Rattle.nl_decl.proofs.declaring.gather.Goals as goal

-- what is gathered is what the declarations declare
pub index_of-requires : goal.index_of-requires
index_of-requires c =
    c.requires.few
    (record { widgets = c.args.widgets; globals = c.in_ok-globals_of.field-0; turtles_own = c.in_ok-owned_by.field-0; patches_own = c.in_ok-owned_by-2.field-0; links_own = c.in_ok-owned_by-3.field-0; breeds = c.in_ok-breeds_of.field-0; procedures = c.in_ok-procedures_of.field-0; index = c.new-2.result })
    (refl, c.in_ok-globals_of.ensures, c.in_ok-owned_by.ensures, c.in_ok-owned_by-2.ensures, c.in_ok-owned_by-3.ensures, c.in_ok-breeds_of.ensures, c.in_ok-procedures_of.ensures)
