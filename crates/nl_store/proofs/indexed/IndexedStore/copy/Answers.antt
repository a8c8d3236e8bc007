use Rattle.nl_store.proofs.Holds.{are-sound}
use Rattle.nl_store.proofs.indexed.IndexedStore.copy.Goals as goal

pub copy-requires-2 : goal.copy-requires-2
copy-requires-2 c = are-sound c.args.self.now.land c.args.self.now.roster c.args.self.now.base c.args.self.now.stands c.args.self.now.fits
