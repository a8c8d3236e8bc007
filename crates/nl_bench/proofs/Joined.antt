-- Parts that were appended one after another.
use Rattle.std.proofs.Common.{◌≡◌, ◌++◌, append_assoc}
use Rattle.nl_fixed.specs.Nouns.{Bytes}

pub joined : (a b c d e t1 t2 t3 t4 t5 : Bytes) → t1 ≡ a → t2 ≡ t1 ++ b → t3 ≡ t2 ++ c → t4 ≡ t3 ++ d → t5 ≡ t4 ++ e → t5 ≡ a ++ (b ++ (c ++ (d ++ e)))
joined a b c d e t1 t2 t3 t4 t5 e1 e2 e3 e4 e5 = rw (e5, e4, e3, e2, e1) (simp append_assoc)
