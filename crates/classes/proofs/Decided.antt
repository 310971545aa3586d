-- A class table is sound, or it is not: each entry of both counts is compared with its sum, and each combination by its own counts.
use Prim.Native.Nat.{ℕ, ◌+◌, ◌^◌}
use mathlib.Core.Path.{◌≡◌, refl}
use mathlib.Core.Bool.{Bool, true, false, not, ◌||◌}
use mathlib.Core.List.{List}
use lib.Dec.{eqb, leb}
use borrow.Author.Tests.{eq-eqb, eqb-true, le-leb, leb-true}
use Rattle.ground.specs.Every.{every}
use Rattle.ground.proofs.Cases.{if, clash}
use Rattle.ground.proofs.Every.{every_at, every_yes}
use Rattle.boxes.specs.Boxes.{sum_in}
use Rattle.tables.specs.Tables.{entry, own, Sums}
use Rattle.profiles.specs.Profiles.{profile_ok, breaks}
use Rattle.profiles.specs.declared.Profile.{Profile}
use Rattle.classes.specs.Standings.{tells}
use Rattle.classes.specs.Sound.{CountsSound, ClassSound}
use Rattle.classes.specs.declared.Standing.TheVariants.{Either}

-- one test implies another

implied : (x y : Bool) → (x ≡ true → y ≡ true) → (not x || y) ≡ true
implied true y h = h refl
implied false y h = refl

implied_yes : (x y : Bool) → (not x || y) ≡ true → x ≡ true → y ≡ true
implied_yes true y h e = h
implied_yes false y h e = clash e refl

-- the sums of a table
module _ (m : ℕ) (t : List ℕ) where
  sum_right : ℕ → Bool
  sum_right b = eqb (entry t b) (sum_in m b (own m t))

  sums_or : {P : Type 0} → (Sums m (entry t) → P) → ((Sums m (entry t) → ⊥) → P) → P
  unfolding sum_right
  sums_or fit unfit =
      if (every (3 ^ m) sum_right)
      (λ e. fit (λ b h. eqb-true _ _ (every_at (3 ^ m) sum_right b e h)))
      (λ e. unfit (λ s. clash (every_yes (3 ^ m) sum_right (λ b h. eq-eqb _ _ (s b h))) e))

module _ (m : ℕ) (outside either : List ℕ) where
  own_right : ℕ → Bool
  own_right c = leb (own m outside c + own m either c) 1

  counts_sound_or : {P : Type 0} → (CountsSound m outside either → P) → ((CountsSound m outside either → ⊥) → P) → P
  unfolding own_right
  counts_sound_or fit unfit =
      sums_or m outside
      (λ o. sums_or m either
      (λ e. if (every (2 ^ m) own_right)
      (λ w. fit record { outsides = o; eithers = e; tells = λ c h. leb-true _ _ (every_at (2 ^ m) own_right c w h) })
      (λ w. unfit (λ s. clash (every_yes (2 ^ m) own_right (λ c h. le-leb _ _ (s.tells c h))) w)))
      (λ n. unfit (λ s. n s.eithers)))
      (λ n. unfit (λ s. n s.outsides))

  module _ (p : Profile) where
    obeyed : ℕ → Bool
    obeyed c = not (breaks m p c) || tells Either (own m outside c) (own m either c)

    pub class_sound_or : {P : Type 0} → (ClassSound m p outside either → P) → ((ClassSound m p outside either → ⊥) → P) → P
    unfolding obeyed
    class_sound_or fit unfit =
        counts_sound_or
        (λ counts. if (profile_ok m p)
        (λ ok. if (every (2 ^ m) obeyed)
        (λ w. fit record { counts = counts; profile = ok; obeys = λ c h. implied_yes (breaks m p c) _ (every_at (2 ^ m) obeyed c w h) })
        (λ w. unfit (λ s. clash (every_yes (2 ^ m) obeyed (λ c h. implied (breaks m p c) _ (s.obeys c h))) w)))
        (λ no. unfit (λ s. clash s.profile no)))
        (λ n. unfit (λ s. n s.counts))
