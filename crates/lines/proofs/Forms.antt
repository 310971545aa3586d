-- A line whose running time is written in another form asks for the same call: a running time has no space, so that a line is cut in one way at its last
-- space; and it has a colon, which no line without a running time has.
use Prim.Native.Nat.{ℕ}
use mathlib.Core.Path.{◌≡◌, refl, sym, ap, ◌∙◌, subst}
use mathlib.Core.List.{List, [], ◌∷◌, ◌++◌, append_assoc}
use native.Mathlib.Omega.{arith}
use lib.Seq.{append_snoc}
use Rattle.ground.specs.Texts.{ascii}
use Rattle.ground.proofs.Without.{Without, without_append, without_behind, last_at}
use Rattle.ground.proofs.Figures.{figures_without}
use Rattle.std.specs.Prelude.{Option, Some}
use Rattle.times.specs.declared.Form.{Form}
use Rattle.times.specs.Texts.{Readable}
use Rattle.times.proofs.Bytes.{no_space, some_colon}
use Rattle.changes.specs.declared.Call.{Call}
use Rattle.lines.specs.declared.Order.{Order}
use Rattle.lines.specs.declared.Order.TheVariants.{Make, Unreadable}
use Rattle.lines.specs.Words.{written, Names, NamesAmount, Says, enters, leaves, receives, withdraws, ends, Asked, said, nothing, MarksLine, Opens, marks}
use Rattle.lines.specs.Forms.{OtherForm}
use Rattle.lines.proofs.Settled.{same_time}

pub flip : {line other : List ℕ} → OtherForm line other → OtherForm other line
flip o = record { front = o.front; seconds = o.seconds; one = o.two; two = o.one }

-- no line of these is without a colon
pub has_colon : {line other : List ℕ} → OtherForm line other → Without 58 line → ⊥
has_colon o w =
    some_colon o.one.readable (without_behind 58 (o.front ++ ascii " ") o.one.time (subst (Without 58) o.one.text w))

in-plain : Without 58 (ascii "in ")
unfolding Without
in-plain = (λ e. omega arith, (λ e. omega arith, (λ e. omega arith, tt)))

out_plain : Without 58 (ascii "out ")
unfolding Without
out_plain = (λ e. omega arith, (λ e. omega arith, (λ e. omega arith, (λ e. omega arith, tt))))

end_plain : Without 58 (ascii "end")
unfolding Without
end_plain = (λ e. omega arith, (λ e. omega arith, (λ e. omega arith, tt)))

names_plain : {m c : ℕ} {verb line : List ℕ} → Without 58 verb → Names m verb line c → Without 58 line
names_plain {m} {c} {verb} v n = subst (Without 58) (sym n.text) (without_append 58 verb (written m c) v (figures_without 2 (omega arith) 58 m c (λ x h e. omega arith)))

-- behind a part without a colon

pub record Again (m : ℕ) (a other : List ℕ) (c : Call) : Type 0 where
  pub rest : List ℕ
  pub form : Option Form
  pub text : other ≡ a ++ rest
  pub says : Says m rest (Make c form)

module _ {m : ℕ} {line other : List ℕ} (o : OtherForm line other) (a : List ℕ) where
  -- the time of the line is the one that is told
  amount_time : {verb rest : List ℕ} {c d : ℕ} {f : Form} → line ≡ a ++ rest → (n : NamesAmount m verb rest c d f)
      → (o.front ≡ a ++ (verb ++ written m c)) × (o.one.time ≡ n.time)
  amount_time {verb} {rest} {c} e n =
      last_at 32 o.front o.one.time (a ++ (verb ++ written m c)) n.time (no_space o.one.readable) (no_space n.readable)
      (sym (append_snoc o.front 32 o.one.time) ∙ sym o.one.text ∙ e ∙ ap (λ (l : List ℕ). a ++ l) (n.text ∙ append_snoc (verb ++ written m c) 32 n.time)
      ∙ sym (append_assoc a (verb ++ written m c) (32 ∷ n.time)))

  amount_again : {verb rest : List ℕ} {c d : ℕ} {f : Form} → line ≡ a ++ rest → NamesAmount m verb rest c d f
      → (other ≡ a ++ (verb ++ written m c ++ ascii " " ++ o.two.time)) × NamesAmount m verb (verb ++ written m c ++ ascii " " ++ o.two.time) c d o.two.form
  amount_again {verb} {rest} {c} {d} {f} e n =
      let w = amount_time e n in
      let s = (same_time o.one.readable (subst (λ (t : List ℕ). Readable t d f) (sym w.1) n.readable)).0 in (
        o.two.text ∙ ap (λ (l : List ℕ). l ++ ascii " " ++ o.two.time) w.0 ∙ ap (λ (l : List ℕ). l ++ o.two.time) (append_assoc a (verb ++ written m c) (ascii " "))
            ∙ append_assoc a (verb ++ written m c ++ ascii " ") o.two.time,
        record { small = n.small; time = o.two.time; readable = subst (λ (v : ℕ). Readable o.two.time v o.two.form) s o.two.readable; text = refl },
      )

  pub call_again : {rest : List ℕ} {c : Call} {f : Option Form} → Without 58 a → line ≡ a ++ rest → Says m rest (Make c f) → Again m a other c
  call_again {rest} p e (enters n) = absurd (has_colon o (subst (Without 58) (sym e) (without_append 58 a rest p (names_plain in-plain n))))
  call_again {rest} p e (leaves n) = absurd (has_colon o (subst (Without 58) (sym e) (without_append 58 a rest p (names_plain out_plain n))))
  call_again p e (receives n) = let w = amount_again e n in record { rest = _; form = Some o.two.form; text = w.0; says = receives w.1 }
  call_again p e (withdraws n) = let w = amount_again e n in record { rest = _; form = Some o.two.form; text = w.0; says = withdraws w.1 }

-- the same is asked for, but for the form
pub data SameCall : Order → Order → Type 0 where
  made : {c : Call} {f g : Option Form} → SameCall (Make c f) (Make c g)
  unread : SameCall Unreadable Unreadable

module _ {m : ℕ} {line other : List ℕ} (o : OtherForm line other) where
  says_again : {c : Call} {f : Option Form} → Says m line (Make c f) → (g : Option Form) × Says m other (Make c g)
  unfolding Without
  says_again {c} s =
      let w = call_again o [] tt refl s in
      (w.form, subst (λ (t : List ℕ). Says m t (Make c w.form)) (sym w.text) w.says)

  -- it says no more than that
  only_calls : (P : Order → Type 0) {p : Order} → ((c : Call) (f : Option Form) → Says m line (Make c f) → P (Make c f)) → Says m line p → P p
  only_calls P g (enters n) = g _ _ (enters n)
  only_calls P g (leaves n) = g _ _ (leaves n)
  only_calls P g (receives n) = g _ _ (receives n)
  only_calls P g (withdraws n) = g _ _ (withdraws n)
  only_calls P g (ends e) = absurd (has_colon o (subst (Without 58) (sym e) end_plain))

marks_plain : {line : List ℕ} {n : ℕ} → MarksLine line n → Without 58 line
unfolding Without
marks_plain k =
    let l = k.0 in
    subst (Without 58) (sym k.1)
    (λ e. omega arith, (λ e. omega arith, (λ e. omega arith, (λ e. omega arith, (λ e. omega arith, (λ e. omega arith, (λ e. omega arith, tt)))))))

module _ {line other : List ℕ} (o : OtherForm line other) where
  pub other_asked : {m : ℕ} {p : Order} → Asked m line p → (q : Order) × Asked m other q × SameCall p q
  other_asked {m} (said s) =
      only_calls o (λ p. (q : Order) × Asked m other q × SameCall p q) (λ c f k. let w = says_again o k in (Make c w.0, said w.1, made)) s
  other_asked (nothing n) =
      (Unreadable, nothing (λ p s. only_calls (flip o) (λ q. ⊥) (λ c f k. n _ (says_again (flip o) k).1) s), unread)

  pub other_opens : {f : Option ℕ} → Opens line f → Opens other f
  other_opens (marks k) = absurd (has_colon o (marks_plain k))
  other_opens (Opens.other n) = Opens.other (λ k w. has_colon (flip o) (marks_plain w))
