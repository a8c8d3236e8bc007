-- What statistics say of the numbers of a list: laws above the definitions.
use Rattle.std.specs.Prelude.{◌≡◌, ℕ, ℤ, ◌≤ℤ◌, Some, Ok, List, slice_get}
use Rattle.nl_listops_series.specs.Statistics.{least_of, greatest_of, mean_of}

-- a number of the list that none is below, and one that none is above
pub record IsLeast (ns : List ℤ) (least : ℤ) : Type 0 where
  pub place : ℕ
  pub member : slice_get ns place ≡ Some least
  pub bound : (k : ℕ) (n : ℤ) → slice_get ns k ≡ Some n → least ≤ℤ n

pub record IsGreatest (ns : List ℤ) (greatest : ℤ) : Type 0 where
  pub place : ℕ
  pub member : slice_get ns place ≡ Some greatest
  pub bound : (k : ℕ) (n : ℤ) → slice_get ns k ≡ Some n → n ≤ℤ greatest

abbrev pub MinIsLeast : Type 0
MinIsLeast = (ns : List ℤ) (least : ℤ) → least_of ns ≡ Ok least → IsLeast ns least

abbrev pub MaxIsGreatest : Type 0
MaxIsGreatest = (ns : List ℤ) (greatest : ℤ) → greatest_of ns ≡ Ok greatest → IsGreatest ns greatest

-- the mean, where it has no error, lies between them
abbrev pub MeanLiesBetween : Type 0
MeanLiesBetween =
    (ns : List ℤ) (least mean greatest : ℤ) →
    least_of ns ≡ Ok least → mean_of ns ≡ Ok mean → greatest_of ns ≡ Ok greatest →
    (least ≤ℤ mean) × (mean ≤ℤ greatest)
