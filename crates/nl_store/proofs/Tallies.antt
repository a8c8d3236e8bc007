-- The counts after an agent came, went or was changed.
use Rattle.std.specs.Prelude.{◌≡◌, ℕ, ◌+◌, ◌<◌, ◌≤◌, ◌^◌, ◌==◌, Bool, cond, List, [], ◌∷◌, ◌++◌, length}
use Rattle.std.proofs.Common.{arith, ap, ◌∙◌, sym, refl}
use Rattle.std.proofs.lemmas.Bool.{cond-true, eq-eqb}
use Rattle.nl_agents.specs.Members.{is_of_breed, is_unbreeded}
use Rattle.nl_agents.specs.declared.agents.Link.{Link}
use Rattle.nl_agents.specs.declared.agents.Turtle.{Turtle}
use Rattle.nl_store.specs.declared.census.Census.{Census}
use Rattle.nl_store.specs.Counts.{breed_many, count_at, is_plain, plain_count, unbreeded, AreCounts, CountsNone, LinkLess, LinkMore, TurtleLess, TurtleMore}
use Rattle.nl_store.proofs.Lists.{at-most-all, one-more}

pub counts-none : (breeds : ℕ) (c : Census) → CountsNone breeds c → AreCounts c breeds [] []
counts-none breeds c h = record { many = h.many; by_breed = h.turtles; by_direction = h.links }

-- there is room for one more
pub breed-room : (c : Census) (breeds breed : ℕ) (ts : List Turtle) (ls : List Link) → AreCounts c breeds ts ls → length ts ≤ 200_000 → count_at c breed < 2 ^ 63
breed-room c breeds breed ts ls h few = omega (arith, h.by_breed breed, at-most-all (is_of_breed breed) ts, few)

pub link-room : (directed : Bool) (c : Census) (breeds : ℕ) (ts : List Turtle) (ls : List Link) → AreCounts c breeds ts ls → length ls < 400_000 → plain_count directed c < 2 ^ 63
link-room directed c breeds ts ls h few = omega (arith, h.by_direction directed, at-most-all (is_unbreeded directed) ls, few)

module _ (old new : Census) (breeds : ℕ) (ts : List Turtle) (ls : List Link) (h : AreCounts old breeds ts ls) where
  pub turtle-came : (t : Turtle) → TurtleMore t.breed old new → AreCounts new breeds (ts ++ t ∷ []) ls
  turtle-came t m = record {
    many = m.many ∙ h.many;
    by_breed = λ n. omega (arith, m.turtles n, h.by_breed n, one-more (is_of_breed n) ts t);
    by_direction = λ d. m.links d ∙ h.by_direction d;
  }

  pub turtle-went : (ts' : List Turtle) (t : Turtle) → ((n : ℕ) → breed_many n ts' + cond (t.breed == n) 1 0 ≡ breed_many n ts) → TurtleLess t.breed old new → AreCounts new breeds ts' ls
  turtle-went ts' t less m = record {
    many = m.many ∙ h.many;
    by_breed = λ n. omega (arith, m.turtles n, h.by_breed n, less n);
    by_direction = λ d. m.links d ∙ h.by_direction d;
  }

  pub link-came : (l : Link) → LinkMore l.breed l.directed old new → AreCounts new breeds ts (ls ++ l ∷ [])
  link-came l m = record {
    many = ap length m.turtles ∙ h.many;
    by_breed = λ n. counted n m.turtles;
    by_direction = λ d. omega (arith, m.links d, h.by_direction d, one-more (is_unbreeded d) ls l);
  }
    where
      counted : (n : ℕ) → new.breeds.items ≡ old.breeds.items → count_at new n ≡ breed_many n ts
      counted n e = rw e (h.by_breed n)

  pub link-went : (ls' : List Link) (l : Link) → ((d : Bool) → unbreeded d ls' + cond (is_unbreeded d l) 1 0 ≡ unbreeded d ls) → LinkLess l.breed l.directed old new → AreCounts new breeds ts ls'
  link-went ls' l less m = record {
    many = ap length m.turtles ∙ h.many;
    by_breed = λ n. counted n m.turtles;
    by_direction = λ d. omega (arith, m.links d, h.by_direction d, less d);
  }
    where
      counted : (n : ℕ) → new.breeds.items ≡ old.breeds.items → count_at new n ≡ breed_many n ts
      counted n e = rw e (h.by_breed n)

  -- the turtle that goes is counted
  pub one-there : (ts' : List Turtle) (t : Turtle) → ((n : ℕ) → breed_many n ts' + cond (t.breed == n) 1 0 ≡ breed_many n ts) → 0 < count_at old t.breed
  one-there ts' t less = omega (arith, less t.breed, h.by_breed t.breed, here t.breed)
    where
      here : (n : ℕ) → cond {A = ℕ} (n == n) 1 0 ≡ 1
      here n = cond-true (n == n) 1 0 (eq-eqb n n refl)

  -- and the link
  pub link-there : (d : Bool) (ls' : List Link) (l : Link) → unbreeded d ls' + cond (is_unbreeded d l) 1 0 ≡ unbreeded d ls → cond (is_plain l.breed l.directed d) 1 0 ≤ plain_count d old
  link-there d ls' l less = omega (arith, less, h.by_direction d)

  -- a turtle was of another breed
  pub breed-changed : (middle : Census) (ts' : List Turtle) (was is : ℕ) → ((n : ℕ) → breed_many n ts' + cond (was == n) 1 0 ≡ breed_many n ts + cond (is == n) 1 0)
      → TurtleLess was old middle → TurtleMore is middle new → AreCounts new breeds ts' ls
  breed-changed middle ts' was is turned less more = record {
    many = more.many ∙ less.many ∙ h.many;
    by_breed = λ n. omega (arith, more.turtles n, less.turtles n, turned n, h.by_breed n);
    by_direction = λ d. more.links d ∙ less.links d ∙ h.by_direction d;
  }

-- agents of which the same are counted
pub same-counts : (c : Census) (breeds : ℕ) (ts ts' : List Turtle) (ls ls' : List Link) → AreCounts c breeds ts ls
    → ((n : ℕ) → breed_many n ts' ≡ breed_many n ts) → ((d : Bool) → unbreeded d ls' ≡ unbreeded d ls) → AreCounts c breeds ts' ls'
same-counts c breeds ts ts' ls ls' h same_turtles same_links = record {
  many = h.many;
  by_breed = λ n. h.by_breed n ∙ sym (same_turtles n);
  by_direction = λ d. h.by_direction d ∙ sym (same_links d);
}
