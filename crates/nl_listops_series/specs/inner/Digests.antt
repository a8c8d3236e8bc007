-- A digest of values, by which a search passes over those that can't be the same.
use Rattle.std.specs.Prelude.{ℕ, ◌+◌, ◌*◌, ◌^◌, ◌%◌, unsigned_abs, fold, if◌then◌else◌}
use Rattle.nl_value.specs.Plain.{Plain, Plains, PlainNumber, PlainTruth, PlainWords, PlainItems, PlainTurtle, PlainPatch, PlainLink, PlainNobody, PlainSet, no_items, item_then}

abbrev pub spread : ℕ
spread = 6364136223846793005

-- the digest with one number more, in 64 bits
abbrev pub stirred : ℕ → ℕ → ℕ
stirred digest more = (digest * spread % 2 ^ 64 + more) % 2 ^ 64

-- the digest of a value of which dead agents were made nobody; all sets have one
abbrev mutual
  pub digest_of : Plain → ℕ
  digest_of (PlainNumber count) = stirred 0 (unsigned_abs count)
  digest_of (PlainTruth truth) = if truth then 1 else 2
  digest_of (PlainWords bytes) = fold stirred 3 bytes
  digest_of (PlainItems items) = digests_of 4 items
  digest_of (PlainTurtle turtle) = stirred 5 turtle
  digest_of (PlainPatch patch) = stirred 6 patch
  digest_of (PlainLink link) = stirred 7 link
  digest_of PlainNobody = 8
  digest_of (PlainSet set) = 9

  pub digests_of : ℕ → Plains → ℕ
  digests_of digest no_items = digest
  digests_of digest (item_then first rest) = digests_of (stirred digest (digest_of first)) rest
