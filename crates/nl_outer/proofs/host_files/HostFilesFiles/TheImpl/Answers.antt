use Rattle.std.proofs.Common.{Result, Ok, Err, IfOk, refl}
use Rattle.nl_outer.proofs.host_files.HostFilesFiles.TheImpl.Goals as goal

-- what holds of every value holds of the one that a call gives
IfOk-all : {A E : Type 0} (P : A → Type 0) (r : Result A E) → ((x : A) → P x) → IfOk r P
IfOk-all P (Ok x) all = all x
IfOk-all P (Err e) all = tt

-- no folder is told, so nothing is claimed of the bytes
pub read_file-tells : goal.read_file-tells
read_file-tells g c = record {
  bytes = IfOk-all _ c.result (λ _. tt);
  bound = c.ensures.bound;
  cause = c.ensures.cause;
  place = c.ensures.place;
  ok = c.ensures.ok;
  same_place = c.ensures.same_place;
  want = c.ensures.want;
  want_place = c.ensures.want_place;
  later = c.ensures.later;
  same_folder = refl;
  same_paths = refl;
}
