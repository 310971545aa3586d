-- A verb settles what a line can say: a line is its verb and the part behind it (`apart`), and no line begins with two verbs (`one_verb`).
use Prim.Native.Nat.{ℕ, ◌+◌, ◌-◌, ◌<◌, ◌≤◌}
use mathlib.Core.Path.{◌≡◌, refl, sym, ap, ◌∙◌, subst}
use mathlib.Core.Bool.{cond}
use mathlib.Core.List.{List, [], ◌∷◌, ◌++◌, append_assoc}
use native.Mathlib.Omega.{arith}
use lib.Dec.{eqb}
use lib.ListN.{length, get_or, take, drop, length-append, take-append-drop}
use lib.Seq.{take_all, take_at, drop_at, drop-append_seam, append_snoc}
use Rattle.std.specs.Prelude.{Option, Some, None}
use Rattle.times.specs.declared.Form.{Form}
use Rattle.times.specs.declared.Time.TheVariants.{Value, Fault}
use Rattle.std.proofs.Common.{unwrap_or}
use Rattle.ground.specs.Texts.{ascii}
use Rattle.ground.proofs.Figures.{figures-length}
use Rattle.times.specs.Texts.{Readable}
use Rattle.times.specs.Places.{ReadsAs, value, fault}
use Rattle.classes.specs.declared.Standing.TheVariants.{In, Out}
use Rattle.changes.specs.declared.Call.TheVariants.{Change, Receive, Withdraw}
use Rattle.lines.specs.declared.Order.{Order}
use Rattle.lines.specs.declared.Order.TheVariants.{Make, End, Unreadable}
use Rattle.lines.specs.Words.{written, Names, NamesAmount, Says, Asked, said, nothing, MarksLine, Opens, marks, other}
use Rattle.lines.specs.Parts.{Patterned, Amounts, SaysOrNot}

-- P, one space and T

-- a text that begins with a space is the space and what is behind it
pub spaced : (rest : List ℕ) → 1 ≤ length rest → get_or rest 0 0 ≡ 32 → rest ≡ 32 ∷ take (length rest - 1) (drop 1 rest)
spaced [] h e = absurd (omega arith)
spaced (x ∷ rest) h e = ap (λ (y : ℕ). y ∷ rest) e ∙ ap (λ (l : List ℕ). 32 ∷ l) (sym (take_all (length (x ∷ rest) - 1) rest (omega arith)))

module _ (m : ℕ) (part : List ℕ) where
  pub amount_short : length part ≤ m → Amounts m part None
  amount_short h =
      λ c d f n.
      omega (arith, ap length n.text, figures-length 2 m c, length-append (written m c ++ ascii " ") n.time, length-append (written m c) (ascii " "))

  pub front_at : {c d : ℕ} {f : Form} (n : NamesAmount m [] part c d f) → Names m [] (take m part) c
  front_at {c} n = record {
    small = n.small;
    text = ap (take m) (n.text ∙ append_assoc (written m c) (ascii " ") n.time) ∙ take_at (written m c) (ascii " " ++ n.time) m (figures-length 2 m c);
  }

  pub behind_at : {c d : ℕ} {f : Form} (n : NamesAmount m [] part c d f) → drop m part ≡ 32 ∷ n.time
  behind_at {c} n = ap (drop m) (n.text ∙ append_assoc (written m c) (ascii " ") n.time) ∙ drop_at (written m c) (ascii " " ++ n.time) m (figures-length 2 m c)

  pub amount_unspaced : (get_or (drop m part) 0 0 ≡ 32 → ⊥) → Amounts m part None
  amount_unspaced q = λ c d f n. q (ap (λ (l : List ℕ). get_or l 0 0) (behind_at n))

  pub amount_unnamed : Patterned m (take m part) None → Amounts m part None
  amount_unnamed q = λ c d f n. q c (front_at n)

  module _ {time : List ℕ} (e : drop m part ≡ 32 ∷ time) where
    pub amount_untimed : {p : ℕ} → ReadsAs Readable time (Fault p) → Amounts m part None
    amount_untimed (fault q x) = λ c d f n. let w : time ≡ n.time = cc (e, behind_at n) in q d f (subst (λ (t : List ℕ). Readable t d f) (sym w) n.readable)

    pub amount_read : {c d : ℕ} {f : Form} → Patterned m (take m part) (Some c) → ReadsAs Readable time (Value d f) → Amounts m part (Some (c, d, f))
    amount_read {c} n (value r) =
        record {
          small = n.small;
          time = time;
          readable = r;
          text = sym (take-append-drop m part) ∙ ap (λ (l : List ℕ). take m part ++ l) e ∙ ap (λ (l : List ℕ). l ++ 32 ∷ time) n.text ∙ sym (append_snoc (written m c) 32 time);
        }

-- verbs: their words, and the verb that a first letter stands for

pub data Verb : Type 0 where
  enter : Verb
  leave : Verb
  receive : Verb
  withdraw : Verb
  end : Verb

abbrev pub word : Verb → List ℕ
word enter = ascii "in "
word leave = ascii "out "
word receive = ascii "recv "
word withdraw = ascii "gone "
word end = ascii "end"

verb_of : ℕ → Verb
verb_of x = cond (eqb x 105) enter (cond (eqb x 111) leave (cond (eqb x 114) receive (cond (eqb x 103) withdraw end)))

verb_of_word : (v : Verb) (part : List ℕ) → verb_of (get_or (word v ++ part) 0 0) ≡ v
unfolding verb_of
verb_of_word enter part = refl
verb_of_word leave part = refl
verb_of_word receive part = refl
verb_of_word withdraw part = refl
verb_of_word end part = refl

one_verb : (v w : Verb) (a b : List ℕ) → word v ++ a ≡ word w ++ b → v ≡ w
one_verb v w a b e = sym (verb_of_word v a) ∙ ap (λ (l : List ℕ). verb_of (get_or l 0 0)) e ∙ verb_of_word w b

-- what the part behind a verb says
pub data Part (m : ℕ) : Verb → List ℕ → Order → Type 0 where
  enters : {part : List ℕ} {c : ℕ} → Names m [] part c → Part m enter part (Make (Change In c) None)
  leaves : {part : List ℕ} {c : ℕ} → Names m [] part c → Part m leave part (Make (Change Out c) None)
  receives : {part : List ℕ} {c d : ℕ} {f : Form} → NamesAmount m [] part c d f → Part m receive part (Make (Receive c d) (Some f))
  withdraws : {part : List ℕ} {c d : ℕ} {f : Form} → NamesAmount m [] part c d f → Part m withdraw part (Make (Withdraw c d) (Some f))
  ends : Part m end [] End

-- a line taken apart, and put together

pub record VerbAndPart (m : ℕ) (line : List ℕ) (o : Order) : Type 0 where
  pub verb : Verb
  pub part : List ℕ
  pub text : line ≡ word verb ++ part
  pub says : Part m verb part o

cancel : (v a b : List ℕ) → v ++ a ≡ v ++ b → a ≡ b
cancel v a b e = sym (drop-append_seam v a) ∙ ap (drop (length v)) e ∙ drop-append_seam v b

regroup : (verb w t : List ℕ) → verb ++ w ++ ascii " " ++ t ≡ verb ++ (w ++ ascii " " ++ t)
regroup verb w t = simp append_assoc

module _ {m : ℕ} {line : List ℕ} where
  behind_names : {verb : List ℕ} {c : ℕ} → Names m verb line c → Names m [] (written m c) c
  behind_names n = record { small = n.small; text = refl }

  behind_amount : {verb : List ℕ} {c d : ℕ} {f : Form} (n : NamesAmount m verb line c d f) → NamesAmount m [] (written m c ++ ascii " " ++ n.time) c d f
  behind_amount n = record { small = n.small; time = n.time; readable = n.readable; text = refl }

  pub apart : {o : Order} → Says m line o → VerbAndPart m line o
  apart (Says.enters n) = record { verb = enter; part = written m _; text = n.text; says = enters (behind_names n) }
  apart (Says.leaves n) = record { verb = leave; part = written m _; text = n.text; says = leaves (behind_names n) }
  apart (Says.receives n) =
      record { verb = receive; part = written m _ ++ ascii " " ++ n.time; text = n.text ∙ regroup (word receive) (written m _) n.time; says = receives (behind_amount n) }
  apart (Says.withdraws n) =
      record { verb = withdraw; part = written m _ ++ ascii " " ++ n.time; text = n.text ∙ regroup (word withdraw) (written m _) n.time; says = withdraws (behind_amount n) }
  apart (Says.ends e) = record { verb = end; part = []; text = e; says = ends }

  with_names : (verb : List ℕ) {part : List ℕ} {c : ℕ} → line ≡ verb ++ part → Names m [] part c → Names m verb line c
  with_names verb e n = record { small = n.small; text = e ∙ ap (λ (l : List ℕ). verb ++ l) n.text }

  with_amount : (verb : List ℕ) {part : List ℕ} {c d : ℕ} {f : Form} → line ≡ verb ++ part → NamesAmount m [] part c d f → NamesAmount m verb line c d f
  with_amount verb {c = c} e n = record {
    small = n.small;
    time = n.time;
    readable = n.readable;
    text = e ∙ ap (λ (l : List ℕ). verb ++ l) n.text ∙ sym (regroup verb (written m c) n.time);
  }

  pub together : (v : Verb) {part : List ℕ} {o : Order} → line ≡ word v ++ part → Part m v part o → Says m line o
  together enter e (enters n) = Says.enters (with_names (ascii "in ") e n)
  together leave e (leaves n) = Says.leaves (with_names (ascii "out ") e n)
  together receive e (receives n) = Says.receives (with_amount (ascii "recv ") e n)
  together withdraw e (withdraws n) = Says.withdraws (with_amount (ascii "gone ") e n)
  together end e ends = Says.ends e

  -- behind its verb a line says what its part says, and no more
  pub apart_same : (v : Verb) (part : List ℕ) {o : Order} → line ≡ word v ++ part → Says m line o → Part m v part o
  apart_same v part {o} e s =
      let a = apart s in
      let w : a.verb ≡ v = one_verb a.verb v a.part part (sym a.text ∙ e) in
      let t : a.part ≡ part = cancel (word v) a.part part (ap (λ (x : Verb). word x ++ a.part) (sym w) ∙ sym a.text ∙ e) in
      subst (λ (x : Verb). Part m x part o) w (subst (λ (l : List ℕ). Part m a.verb l o) t a.says)

  pub unsaid : (v : Verb) (part : List ℕ) → line ≡ word v ++ part → ((o : Order) → Part m v part o → ⊥) → SaysOrNot m line None
  unsaid v part e n = λ o s. n o (apart_same v part e s)

-- a line with none of the verbs
pub none_said : (m : ℕ) (line : List ℕ) → ((v : Verb) (part : List ℕ) → line ≡ word v ++ part → ⊥) → SaysOrNot m line None
none_said m line n = λ o s. let a = apart s in n a.verb a.part a.text

-- a part that is not what its verb asks for says nothing

module _ {m : ℕ} {part : List ℕ} where
  pub enter_unsaid : ((c : ℕ) → Names m [] part c → ⊥) → (o : Order) → Part m enter part o → ⊥
  enter_unsaid q o (enters n) = q _ n

  pub leave_unsaid : ((c : ℕ) → Names m [] part c → ⊥) → (o : Order) → Part m leave part o → ⊥
  leave_unsaid q o (leaves n) = q _ n

  pub receive_unsaid : ((c d : ℕ) (f : Form) → NamesAmount m [] part c d f → ⊥) → (o : Order) → Part m receive part o → ⊥
  receive_unsaid q o (receives n) = q _ _ _ n

  pub withdraw_unsaid : ((c d : ℕ) (f : Form) → NamesAmount m [] part c d f → ⊥) → (o : Order) → Part m withdraw part o → ⊥
  withdraw_unsaid q o (withdraws n) = q _ _ _ n

-- `end`, and nothing behind it
pub said_end : {m : ℕ} {line part : List ℕ} → line ≡ ascii "end" ++ part → length part < 1 → Says m line End
said_end {part = []} e h = Says.ends e
said_end {part = x ∷ part} e h = absurd (omega arith)

pub end_unsaid : {m : ℕ} {part : List ℕ} → (part ≡ [] → ⊥) → (o : Order) → Part m end part o → ⊥
end_unsaid q o ends = q refl

-- a line asks for what it says, or for nothing
pub asked_of : {m : ℕ} {line : List ℕ} (r : Option Order) → SaysOrNot m line r → Asked m line (unwrap_or r Unreadable)
asked_of (Some o) s = said s
asked_of None n = nothing n

-- line 1

pub opens_other : (line : List ℕ) → ((part : List ℕ) → line ≡ ascii "marks " ++ part → ⊥) → Opens line None
opens_other line b = other (λ n k. b ((48 + n) ∷ []) k.1)

-- one digit stands behind `marks`, or something else
module _ (line part : List ℕ) (e : line ≡ ascii "marks " ++ part) where
  digit_behind : {n : ℕ} → MarksLine line n → part ≡ (48 + n) ∷ []
  digit_behind {n} k = cancel (ascii "marks ") part ((48 + n) ∷ []) (sym e ∙ k.1)

  pub opens_long : (length part ≡ 1 → ⊥) → Opens line None
  opens_long q = other (λ n k. q (ap length (digit_behind k)))

  pub opens_byte : ((48 ≤ get_or part 0 0) × (get_or part 0 0 ≤ 57) → ⊥) → Opens line None
  opens_byte q = other (λ n k. let w = ap (λ (l : List ℕ). get_or l 0 0) (digit_behind k) in let h = k.0 in q (omega arith, omega arith))

  pub opens_marks : (n : ℕ) → length part ≡ 1 → n ≤ 9 → get_or part 0 0 ≡ 48 + n → Opens line (Some n)
  opens_marks n l h w = marks (h, e ∙ ap (λ (t : List ℕ). ascii "marks " ++ t) (one part l w))
    where
      one : (t : List ℕ) → length t ≡ 1 → get_or t 0 0 ≡ 48 + n → t ≡ (48 + n) ∷ []
      one [] l w = absurd (omega arith)
      one (x ∷ []) l w = ap (λ (y : ℕ). y ∷ []) w
      one (x ∷ y ∷ t) l w = absurd (omega arith)
