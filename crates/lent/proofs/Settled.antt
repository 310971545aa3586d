-- What is read, told, lent and written is settled: bytes read as one sheet at most, and where the call on it has one answer, so has the whole.
use Prim.Native.Nat.{ℕ}
use mathlib.Core.Path.{◌≡◌, refl, sym, ◌∙◌, ap, subst}
use mathlib.Core.List.{List}
use Rattle.sheet.specs.Limits.{most_marks, entries}
use Rattle.sheet.specs.declared.Sheet.{Sheet}
use Rattle.sheet.specs.Told.{Answer}
use Rattle.sheet.specs.Told.{Value}
use Rattle.stored.specs.Answers.{Reads}
use Rattle.stored.specs.Told.{Read}
use Rattle.stored.proofs.Settled.{reads_settled, writes_settled}
use Rattle.lent.specs.declared.Reply.{Reply}
use Rattle.lent.specs.Entries.{valued, HoldsBy, HoldsNoneBy, Put, ChangesBy, TellsAs, Lends}

-- what is read, by a way of reading that gives one answer at most

module _ {R : Read → Type 0} (alone : (a b : Read) → R a → R b → a ≡ b) where
  pub one_sheet : {s u : Sheet} → HoldsBy R s → HoldsBy R u → s ≡ u
  one_sheet p q = sym p.sheet ∙ ap (λ (a : Read). a.sheet) (alone _ _ p.reads q.reads) ∙ q.sheet

  one_refusal : {A : Type 0} {refusal : Read → A} {r z : A} → HoldsNoneBy R refusal r → HoldsNoneBy R refusal z → r ≡ z
  one_refusal {refusal = refusal} p q = p.reply ∙ ap refusal (alone _ _ p.reads q.reads) ∙ sym q.reply

  pub not_both : {A : Type 0} {refusal : Read → A} {r : A} {s : Sheet} → HoldsNoneBy R refusal r → HoldsBy R s → ⊥
  not_both p q = p.bad (ap (λ (a : Read). a.number) (alone _ _ p.reads q.reads) ∙ q.good)

pub stored_alone : (t : List ℕ) (a b : Read) → Reads most_marks entries t a → Reads most_marks entries t b → a ≡ b
stored_alone t a b = reads_settled

-- what is written

pub put_settled : {a : Answer} {out x y : List ℕ} {r z : Reply} → Put a out r x → Put a out z y → (r ≡ z) × (x ≡ y)
put_settled (Put.refused p) (Put.refused q) = (refl, refl)
put_settled (Put.refused p) (Put.written q w) = absurd (p q)
put_settled (Put.written p v) (Put.refused q) = absurd (q p)
put_settled (Put.written p v) (Put.written q w) = let e = writes_settled v w in (ap valued e.0, e.1)

-- changes, values told, and lists lent

pub changes_by_settled : {R : Read → Type 0} → ((a b : Read) → R a → R b → a ≡ b) → {call : Sheet → Answer} {out x y : List ℕ} {r z : Reply}
    → ChangesBy R call out r x → ChangesBy R call out z y → (r ≡ z) × (x ≡ y)
changes_by_settled alone (ChangesBy.unread p) (ChangesBy.unread q) = (one_refusal alone p q, refl)
changes_by_settled alone (ChangesBy.unread p) (ChangesBy.called q w) = absurd (not_both alone p q)
changes_by_settled alone (ChangesBy.called p v) (ChangesBy.unread q) = absurd (not_both alone q p)
changes_by_settled alone {call} {out} (ChangesBy.called {r = r} {later = x} p v) (ChangesBy.called q w) =
    put_settled (subst (λ (s : Sheet). Put (call s) out r x) (one_sheet alone p q) v) w

pub tells_settled : {A B : Type 0} {refusal : Read → B} {reply : A → B} {call : Sheet → A → Type 0} → ((s : Sheet) (v w : A) → call s v → call s w → v ≡ w)
    → {t : List ℕ} {r z : B} → TellsAs refusal reply call t r → TellsAs refusal reply call t z → r ≡ z
tells_settled one {t} (TellsAs.unread p) (TellsAs.unread q) = one_refusal (stored_alone t) p q
tells_settled one {t} (TellsAs.unread p) (TellsAs.told q w) = absurd (not_both (stored_alone t) p q)
tells_settled one {t} (TellsAs.told p v) (TellsAs.unread q) = absurd (not_both (stored_alone t) q p)
tells_settled {reply = reply} {call} one {t} (TellsAs.told {a = a} p v) (TellsAs.told q w) =
    ap reply (one _ _ _ (subst (λ (s : Sheet). call s a) (one_sheet (stored_alone t) p q) v) w)

pub lends_settled : {call : Sheet → List ℕ → Value → List ℕ → Type 0}
    → ((s : Sheet) (area : List ℕ) (v w : Value) (x y : List ℕ) → call s area v x → call s area w y → (v ≡ w) × (x ≡ y))
    → {t area x y : List ℕ} {r z : Reply} → Lends call t area r x → Lends call t area z y → (r ≡ z) × (x ≡ y)
lends_settled one {t} (Lends.unread p) (Lends.unread q) = (one_refusal (stored_alone t) p q, refl)
lends_settled one {t} (Lends.unread p) (Lends.lent q w) = absurd (not_both (stored_alone t) p q)
lends_settled one {t} (Lends.lent p v) (Lends.unread q) = absurd (not_both (stored_alone t) q p)
lends_settled {call} one {t} {area} (Lends.lent {v = a} {later = x} p v) (Lends.lent q w) =
    let e = one _ area _ _ _ _ (subst (λ (s : Sheet). call s area a x) (one_sheet (stored_alone t) p q) v) w in
    (ap valued e.0, e.1)
