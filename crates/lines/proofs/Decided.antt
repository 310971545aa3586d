-- Every line asks for something, and line 1 says something: the readers' steps, followed to the end.
use Prim.Native.Nat.{ℕ, zero, suc, ◌+◌, ◌-◌, ◌*◌}
use mathlib.Core.Path.{◌≡◌, refl, sym, ap, ◌∙◌}
use mathlib.Core.List.{List, [], ◌∷◌, ◌++◌}
use native.Mathlib.Omega.{arith}
use lib.ListN.{length, get_or, take, drop, length-drop}
use Rattle.ground.proofs.Cases.{same_or, range_or}
use Rattle.ground.proofs.Beginnings.{begins_or}
use Rattle.std.specs.Prelude.{Option, Some, None}
use Rattle.times.specs.declared.Form.{Form}
use Rattle.times.specs.declared.Time.{Time}
use Rattle.times.specs.declared.Time.TheVariants.{Value, Fault}
use Rattle.ground.specs.Texts.{ascii, Begins}
use Rattle.times.specs.Texts.{Readable}
use Rattle.times.specs.Places.{ReadsAs}
use Rattle.times.proofs.Decided.{time_decided}
use Rattle.classes.specs.declared.Standing.TheVariants.{In, Out}
use Rattle.changes.specs.declared.Call.{Call}
use Rattle.changes.specs.declared.Call.TheVariants.{Change, Receive, Withdraw}
use Rattle.machine.specs.Rows.{Row, whole, spoiled}
use Rattle.lines.specs.declared.Order.{Order}
use Rattle.lines.specs.declared.Order.TheVariants.{Make, End, Unreadable}
use Rattle.lines.specs.Words.{Names, NamesAmount, Asked, Opens, RowAsks, RowOpens}
use Rattle.lines.specs.Parts.{Patterned, Amounts, SaysOrNot}
use Rattle.lines.proofs.Patterns.{Front, front_none, front_more, pattern_long, pattern_other, pattern_read}
use Rattle.lines.proofs.Orders.{amount_short, amount_unspaced, amount_unnamed, amount_untimed, amount_read, Verb, enter, leave, receive, withdraw, end, word, Part, enters, leaves, receives, withdraws, ends, enter_unsaid, leave_unsaid, receive_unsaid, withdraw_unsaid, end_unsaid, together, unsaid, none_said, asked_of, opens_other, opens_long, opens_byte, opens_marks}

-- parts behind a verb

pattern-from : (m : ℕ) (part : List ℕ) (k i n : ℕ) → i + k ≡ m → length part ≡ m → Front part i n → (p : Option ℕ) × Patterned m part p
pattern-from m part zero i n h e t = (Some n, pattern_read m part i n e (omega arith) t)
pattern-from m part (suc k) i n h e t =
    let x = get_or part i 0 in
    range_or 48 49 x
    (λ w. pattern-from m part k (i + 1) (n * 2 + (x - 48)) (omega arith) e (front_more part i n (x - 48) t (omega arith) (omega (arith, w.1)) (omega (arith, w.0))))
    (λ w. (None, pattern_other m part i (omega arith) w))

pattern_decided : (m : ℕ) (part : List ℕ) → (p : Option ℕ) × Patterned m part p
pattern_decided m part =
    same_or (length part) m (λ e. pattern-from m part m 0 0 (omega arith) e (front_none part)) (λ e. (None, pattern_long m part e))

amount_decided : (m : ℕ) (part : List ℕ) → (a : Option (ℕ × ℕ × Form)) × Amounts m part a
amount_decided m part = rest (drop m part) refl
  where
    go : {time : List ℕ} → drop m part ≡ 32 ∷ time → (p : Option ℕ) × Patterned m (take m part) p → (r : Time) × ReadsAs Readable time r
        → (a : Option (ℕ × ℕ × Form)) × Amounts m part a
    go e (None, p) t = (None, amount_unnamed m part p)
    go e (Some c, p) (Fault q, t) = (None, amount_untimed m part e t)
    go e (Some c, p) (Value d f, t) = (Some (c, d, f), amount_read m part e p t)

    rest : (r : List ℕ) → drop m part ≡ r → (a : Option (ℕ × ℕ × Form)) × Amounts m part a
    rest [] e = (None, amount_short m part (omega (arith, ap length e, length-drop m part)))
    rest (x ∷ time) e =
        same_or x 32
        (λ s. go (e ∙ ap (λ (y : ℕ). y ∷ time) s) (pattern_decided m (take m part)) (time_decided time))
        (λ s. (None, amount_unspaced m part (λ w. s (sym (ap (λ (l : List ℕ). get_or l 0 0) e) ∙ w))))

-- lines

module _ (m : ℕ) where
  pattern_said : {line : List ℕ} (v : Verb) (call : ℕ → Call) → ((part : List ℕ) (c : ℕ) → Names m [] part c → Part m v part (Make (call c) None))
      → ((part : List ℕ) → ((c : ℕ) → Names m [] part c → ⊥) → (o : Order) → Part m v part o → ⊥) → Begins (word v) line → (r : Option Order) × SaysOrNot m line r
  pattern_said {line} v call says lacks b = go (pattern_decided m b.0)
    where
      go : (p : Option ℕ) × Patterned m b.0 p → (r : Option Order) × SaysOrNot m line r
      go (Some c, w) = (Some (Make (call c) None), together v b.1 (says b.0 c w))
      go (None, w) = (None, unsaid v b.0 b.1 (lacks b.0 w))

  amount_said : {line : List ℕ} (v : Verb) (call : ℕ → ℕ → Call) → ((part : List ℕ) (c d : ℕ) (f : Form) → NamesAmount m [] part c d f → Part m v part (Make (call c d) (Some f)))
      → ((part : List ℕ) → ((c d : ℕ) (f : Form) → NamesAmount m [] part c d f → ⊥) → (o : Order) → Part m v part o → ⊥) → Begins (word v) line → (r : Option Order) × SaysOrNot m line r
  amount_said {line} v call says lacks b = go (amount_decided m b.0)
    where
      go : (a : Option (ℕ × ℕ × Form)) × Amounts m b.0 a → (r : Option Order) × SaysOrNot m line r
      go (Some (c, d, f), w) = (Some (Make (call c d) (Some f)), together v b.1 (says b.0 c d f w))
      go (None, w) = (None, unsaid v b.0 b.1 (lacks b.0 w))

  end_said : {line : List ℕ} → Begins (word end) line → (r : Option Order) × SaysOrNot m line r
  end_said {line} b = go b.0 b.1
    where
      go : (part : List ℕ) → line ≡ word end ++ part → (r : Option Order) × SaysOrNot m line r
      go [] e = (Some End, together end e ends)
      go (x ∷ part) e = (None, unsaid end (x ∷ part) e (end_unsaid (λ q. cc)))

  verb_said : {line : List ℕ} (v : Verb) → Begins (word v) line → (r : Option Order) × SaysOrNot m line r
  verb_said enter b = pattern_said enter (Change In) (λ part c n. enters n) (λ part. enter_unsaid) b
  verb_said leave b = pattern_said leave (Change Out) (λ part c n. leaves n) (λ part. leave_unsaid) b
  verb_said receive b = amount_said receive Receive (λ part c d f n. receives n) (λ part. receive_unsaid) b
  verb_said withdraw b = amount_said withdraw Withdraw (λ part c d f n. withdraws n) (λ part. withdraw_unsaid) b
  verb_said end b = end_said b

-- a line begins with one of the verbs or with none
verb_or : {P : Type 0} (line : List ℕ) → ((v : Verb) → Begins (word v) line → P) → (((v : Verb) → Begins (word v) line → ⊥) → P) → P
verb_or line good bad =
    begins_or (word enter) line (good enter) (λ i.
    begins_or (word leave) line (good leave) (λ o.
    begins_or (word receive) line (good receive) (λ r.
    begins_or (word withdraw) line (good withdraw) (λ g.
    begins_or (word end) line (good end) (λ e. bad (none i o r g e))))))
  where
    none : (Begins (word enter) line → ⊥) → (Begins (word leave) line → ⊥) → (Begins (word receive) line → ⊥) → (Begins (word withdraw) line → ⊥)
        → (Begins (word end) line → ⊥) → (v : Verb) → Begins (word v) line → ⊥
    none i o r g e enter = i
    none i o r g e leave = o
    none i o r g e receive = r
    none i o r g e withdraw = g
    none i o r g e end = e

pub asked_decided : (m : ℕ) (line : List ℕ) → (o : Order) × Asked m line o
asked_decided m line = let w = verb_or line (verb_said m) (λ n. (None, none_said m line (λ v part e. n v (part, e)))) in (_, asked_of w.0 w.1)

digit_opens : (line part : List ℕ) → line ≡ ascii "marks " ++ part → (f : Option ℕ) × Opens line f
digit_opens line part e =
    same_or (length part) 1
    (λ l. range_or 48 57 (get_or part 0 0)
    (λ w. (Some (get_or part 0 0 - 48), opens_marks line part e (get_or part 0 0 - 48) l (omega (arith, w.1)) (omega (arith, w.0))))
    (λ w. (None, opens_byte line part e w)))
    (λ l. (None, opens_long line part e l))

pub opens_decided : (line : List ℕ) → (f : Option ℕ) × Opens line f
opens_decided line = begins_or (ascii "marks ") line (λ b. digit_opens line b.0 b.1) (λ b. (None, opens_other line (λ part e. b (part, e))))

pub row_asks_decided : (m : ℕ) (row : Row) → (o : Order) × RowAsks m row o
row_asks_decided m (whole line) = let w = asked_decided m line in (w.0, RowAsks.read w.1)
row_asks_decided m spoiled = (Unreadable, RowAsks.lost)

pub row_opens_decided : (row : Row) → (f : Option ℕ) × RowOpens row f
row_opens_decided (whole line) = let w = opens_decided line in (w.0, RowOpens.read w.1)
row_opens_decided spoiled = (None, RowOpens.lost)
