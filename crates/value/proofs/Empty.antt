-- What an aggregate of an empty set is, against the model's. Assumes nothing.
use Prim.Native.Nat.{ℕ, zero, suc}
use mathlib.Core.List.{[]}
use mathlib.Core.Path.{◌≡◌, refl}
use Rattle.model.specs.Lists.{filter}
use Rattle.model.specs.Aggregate.{aggregate_of, present_of, sum_of, min_of, max_of, ave_of, total}
use Rattle.value.specs.Exact.{in_words, empty_of}

pub empty_is : (f c : ℕ) → in_words (aggregate_of f c []) ≡ empty_of f
unfolding aggregate_of present_of filter sum_of min_of max_of ave_of total empty_of
empty_is zero c = refl
empty_is (suc zero) c = refl
empty_is (suc (suc zero)) c = refl
empty_is (suc (suc (suc zero))) c = refl
empty_is (suc (suc (suc (suc f)))) c = refl
