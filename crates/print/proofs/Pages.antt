-- Laws of a page: texts laid one behind the other are one text (`puts_then`), and what a page lays, a call on its area wrote (`wrote_of`).
use Rattle.std.proofs.Common.{◌≡◌, ℕ, ◌+◌, ◌≤◌, List, [], ◌++◌, length, drop, arith, refl, sym, ◌∙◌, ap, ap₂, subst, append_assoc, append-nil, length-append, length-drop, take-append-drop, get_or-drop, ext_get_or}
use Rattle.ground.specs.Areas.{laid, Wrote}
use Rattle.print.specs.declared.page.Page.{Page}
use Rattle.print.specs.Pages.{Puts}

pub puts_nothing : (p : Page) → Puts p p []
puts_nothing p = record { laid = sym (append-nil _); len = omega arith; behind = λ k h. refl; long = refl; same = refl }

pub puts_then : {a b c : Page} {s t : List ℕ} → Puts a b s → Puts b c t → Puts a c (s ++ t)
puts_then {a} {b} {c} {s} {t} p q = record {
  laid = q.laid ∙ ap (λ x. x ++ t) p.laid ∙ append_assoc _ s t;
  len = simp length-append (omega (arith, p.len, q.len));
  behind = λ k h. q.behind k h ∙ p.behind k (omega (arith, q.len));
  long = q.long ∙ p.long;
  same = q.same ∙ p.same;
}

-- the same text, told otherwise
pub puts_text : {a b : Page} {s t : List ℕ} → s ≡ t → Puts a b s → Puts a b t
puts_text {a} {b} e p = subst (Puts a b) e p

pub wrote_of : {a b : Page} {t : List ℕ} → Puts a b t → a.len + length t ≤ length a.area.now → Wrote a.area.now a.len t b.len b.area.now
unfolding laid
wrote_of {a} {b} {t} p h = record {
  place = p.len;
  area = sym (take-append-drop b.len b.area.now) ∙ ap₂ (λ (x y : List ℕ). x ++ y) p.laid (rest ∙ ap (λ (n : ℕ). drop n a.area.now) p.len);
}
  where
    rest : drop b.len b.area.now ≡ drop b.len a.area.now
    rest =
        ext_get_or 0 _ _ (simp length-drop (omega (arith, p.long)))
        (λ i l. get_or-drop b.len b.area.now i 0 ∙ p.behind (b.len + i) (omega arith) ∙ sym (get_or-drop b.len a.area.now i 0))

-- the same of a page that was laid over an area, from a place on
pub wrote_on : {a b : Page} {t out now : List ℕ} {at : ℕ} → Puts a b t → a.area.now ≡ out → a.len ≡ at → at + length t ≤ length out → b.area.now ≡ now
    → Wrote out at t b.len now
wrote_on {a} {b} {t} {now = now} {at = at} p e f h g =
    subst (λ (o : List ℕ). Wrote o at t b.len now) e
    (subst (λ (o : List ℕ). Wrote a.area.now at t b.len o) g
    (subst (λ (n : ℕ). Wrote a.area.now n t b.len b.area.now) f (wrote_of p (omega (arith, ap length e)))))
