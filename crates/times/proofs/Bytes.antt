-- A running time has a colon and no space.
use Prim.Native.Nat.{ℕ, ◌+◌}
use mathlib.Core.Path.{sym, ◌∙◌, subst}
use mathlib.Core.List.{List, [], ◌∷◌, ◌++◌}
use native.Mathlib.Omega.{arith}
use lib.Seq.{append_snoc}
use Rattle.ground.specs.Texts.{ascii}
use Rattle.ground.proofs.Without.{Without, without_append, without_at}
use Rattle.times.specs.declared.Form.{Form}
use Rattle.times.specs.Texts.{Digits, Sixty, Readable, minutes, hours}

digits_no_space : (l : List ℕ) → Digits l → Without 32 l
unfolding Digits Without
digits_no_space [] d = tt
digits_no_space (c ∷ l) d = (λ e. omega (arith, d.0), digits_no_space l d.1)

sixty_no_space : {l : List ℕ} {x : ℕ} → Sixty l x → Without 32 l
unfolding Without
sixty_no_space s = subst (Without 32) (sym s.text) (λ e. omega arith, (λ e. omega arith, tt))

colon_no_space : Without 32 (ascii ":")
unfolding Without
colon_no_space = (λ e. omega arith, tt)

pub no_space : {t : List ℕ} {v : ℕ} {f : Form} → Readable t v f → Without 32 t
unfolding Without
no_space (minutes r) =
    subst (Without 32) (sym r.text)
    (without_append 32 (r.first ++ ascii ":") r.last (without_append 32 r.first (ascii ":") (digits_no_space r.first r.minutes.digits) colon_no_space)
    (sixty_no_space r.seconds))
no_space (hours r) =
    subst (Without 32) (sym r.text)
    (without_append 32 ((48 + r.h) ∷ ascii ":" ++ r.middle ++ ascii ":") r.last
    (without_append 32 ((48 + r.h) ∷ ascii ":" ++ r.middle) (ascii ":")
    (λ e. omega arith, (λ e. omega arith, sixty_no_space r.minutes)) colon_no_space) (sixty_no_space r.seconds))

pub some_colon : {t : List ℕ} {v : ℕ} {f : Form} → Readable t v f → Without 58 t → ⊥
some_colon (minutes r) w = without_at 58 r.first r.last (subst (Without 58) (r.text ∙ append_snoc r.first 58 r.last) w)
some_colon (hours r) w = without_at 58 ((48 + r.h) ∷ []) (r.middle ++ ascii ":" ++ r.last) (subst (Without 58) (r.text ∙ cc) w)
