-- Headers at the beginning of texts.
use Rattle.std.proofs.Common.{◌≡◌, ◌⊎◌, inl, inr, ℕ, List, [], ◌∷◌, ◌++◌, length, refl, sym, ap, ◌∙◌}
use Rattle.grasp_model_network.specs.declared.plan.WorldPlan.{WorldPlan}
use Rattle.grasp_script.specs.Reads.{HeaderRead}
use Rattle.grasp_script.specs.Scripts.{text_lines}
use Rattle.grasp_script.proofs.ScriptLaws.{Lines, same_header}

-- of two divisions of the same lines, one first part is a front of the other
pub record Splits (a b : Lines) : Type 0 where
  pub more : Lines
  pub parts : b ≡ a ++ more

pub splits : (a b c d : Lines) → a ++ c ≡ b ++ d → Splits a b ⊎ Splits b a
splits [] b c d e = inl (record { more = b; parts = refl })
splits (x ∷ a) [] c d e = inr (record { more = x ∷ a; parts = refl })
splits (x ∷ a) (y ∷ b) c d e =
    let first : x ≡ y = cc in
    let rest : a ++ c ≡ b ++ d = cc in
    elim (splits a b c d rest) [
      | inl h ↦ inl (record { more = h.more; parts = λ i. sym first i ∷ h.parts i })
      | inr h ↦ inr (record { more = h.more; parts = λ i. first i ∷ h.parts i })
    ]

-- a text begins with one header
pub one_head : (text behind rest : List ℕ) (p q : WorldPlan) (m n : ℕ) → HeaderRead text behind p m → HeaderRead text rest q n → (p ≡ q) × (m ≡ n)
one_head text behind rest p q m n a b =
    let s = same_header a.header b.header p q a.is_header b.is_header (text_lines behind) (text_lines rest) (sym a.parts ∙ b.parts) in
    (s.plans, a.place ∙ ap length s.parts.front ∙ sym b.place)
