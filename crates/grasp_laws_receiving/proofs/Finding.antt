-- Which session a handle names.
use Rattle.std.proofs.Common.{◌≡◌, ℕ, ◌==◌, Bool, true, false, cond, Option, Some, None, refl, sym, ap, ◌∙◌}
use Rattle.std.specs.Prelude.{slice_index_or}
use Rattle.std.proofs.lemmas.Bool.{eqb-true, eq-eqb}
use Rattle.std.proofs.lemmas.Option.{same_Some}
use Rattle.grasp_session.specs.Sessions.{SessionState, if_number}
use Rattle.grasp_laws_receiving.specs.Finding.{SessionsAreFound}

by_test : (number : ℕ) (y x : SessionState) (b : Bool) → y.number == number ≡ b → cond b (Some y) None ≡ Some x → (Some y ≡ Some x) × (x.number ≡ number)
by_test number y x true e f = (f, ap (λ (k : SessionState). k.number) (sym (same_Some y x f)) ∙ eqb-true y.number number e)
by_test number y x false e f = absurd (cc)

is_there : (number : ℕ) (x : SessionState) (o : Option SessionState) → if_number (λ (k : SessionState). k.number) number o ≡ Some x → (o ≡ Some x) × (x.number ≡ number)
is_there number x None e = absurd (cc)
is_there number x (Some y) e = by_test number y x (y.number == number) refl e

is_named : (number : ℕ) (x : SessionState) (o : Option SessionState) → o ≡ Some x → x.number ≡ number → if_number (λ (k : SessionState). k.number) number o ≡ Some x
is_named number x o e f = ap (if_number (λ (k : SessionState). k.number) number) e ∙ ap (λ b. cond b (Some x) None) (eq-eqb x.number number f)

pub sessions_are_found : SessionsAreFound
sessions_are_found z h x = (λ e. is_there h.number x (slice_index_or z.places h.place None) e, λ p. is_named h.number x (slice_index_or z.places h.place None) p.0 p.1)
