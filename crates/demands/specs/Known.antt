-- The known sheets and times that 01 marks ●, and the known list of 02, Q-4, shown of the definitions: the rows of one table, under one statement.
use Rattle.std.specs.Prelude.{ℕ, List, [], ◌∷◌}
use Rattle.ground.specs.Texts.{ascii}
use Rattle.lists.specs.Lists.{among, FirstShortest}
use Rattle.checking.specs.Faults.{Judged}
use Rattle.checking.specs.declared.Fault.TheVariants.{NoBox}
use Rattle.checking.specs.Finding.{Finding}
use Rattle.checking.specs.Finding.Finding.{Faulty}
use Rattle.times.specs.declared.Form.TheVariants.{Minutes}
use Rattle.times.specs.declared.Time.{Time}
use Rattle.times.specs.declared.Time.TheVariants.{Value, Fault}
use Rattle.times.specs.Texts.{Readable}
use Rattle.times.specs.Places.{ReadsAs}

-- the list of a class over m marks; what is found of a list for such a class; what a text reads as
pub data Example : Type 0 where
  sheet : (m : ℕ) (class list : List ℕ) → Example
  drawn : (m : ℕ) (class list : List ℕ) (is : Finding) → Example
  time : (text : List ℕ) (is : Time) → Example

unfoldable pub table : List Example
table =
    sheet 1 [] []
    ∷ sheet 1 (0 ∷ []) (0 ∷ [])
    ∷ sheet 1 (0 ∷ 1 ∷ []) (2 ∷ [])
    ∷ sheet 2 (0 ∷ 3 ∷ []) (0 ∷ 4 ∷ [])
    ∷ sheet 2 (0 ∷ 1 ∷ 2 ∷ []) (2 ∷ 3 ∷ [])
    ∷ sheet 2 (1 ∷ 2 ∷ 3 ∷ []) (1 ∷ 5 ∷ [])
    ∷ sheet 2 (0 ∷ 1 ∷ 2 ∷ 3 ∷ []) (8 ∷ [])
    ∷ sheet 3 (1 ∷ 2 ∷ 4 ∷ 7 ∷ []) (1 ∷ 3 ∷ 9 ∷ 13 ∷ [])
    ∷ drawn 2 (1 ∷ 2 ∷ 3 ∷ []) (5 ∷ 5 ∷ 9 ∷ []) (Faulty NoBox 2)
    ∷ time (ascii "0:00") (Value 0 Minutes)
    ∷ time (ascii "599:59") (Value 35999 Minutes)
    ∷ time (ascii "600:00") (Fault 2)
    ∷ time (ascii "12:3") (Fault 4)
    ∷ []

-- the list is the first shortest of the class; this is found of it, and nothing else (`judged_settled`); the text reads so, and in no other way
-- (`read_settled`)
abbrev pub Holds : Example → Type 0
Holds (sheet m class list) = FirstShortest m (among class) (among class) list
Holds (drawn m class list is) = Judged m (among class) (among class) list is
Holds (time text is) = ReadsAs Readable text is

unfoldable pub Shown : List Example → Type 0
Shown [] = Unit {0}
Shown (e ∷ l) = Holds e × Shown l
