-- Laws of codes by lines: what fails is not decided; fewer lost strips are decided where more are. Assumes nothing.
use Rattle.std.specs.Prelude.{ℕ, ◌<◌, ◌≡◌, refl, Bool, true, false}
use Rattle.std.proofs.Common.{sym, ◌∙◌}
use Rattle.code.specs.SumLaws.{clash}
use Rattle.code.specs.Code.{Code, Agree, Fails, Decided}

pub not_both : (C : Code) (lost : ℕ → Bool) → Decided C lost → Fails C lost → ⊥
not_both C lost d f = f.differ (d.same f.one f.other f.one_sound f.other_sound f.agree)

-- every strip of the one set is lost in the other
pub record Fewer (few many : ℕ → Bool) : Type 0 where
  pub also : (j : ℕ) → few j ≡ true → many j ≡ true

pub agree_fewer : (C : Code) (few many : ℕ → Bool) → Fewer few many → (f g : ℕ → ℕ) → Agree C few f g → Agree C many f g
agree_fewer C few many w f g a = record { survivors = λ p lp e. go p lp e (few (C.strip p)) refl }
  where
    go : (p : ℕ) → p < C.places → many (C.strip p) ≡ false → (t : Bool) → few (C.strip p) ≡ t → f p ≡ g p
    go p lp e true q = clash (sym e ∙ w.also (C.strip p) q)
    go p lp e false q = a.survivors p lp q

pub decided_fewer : (C : Code) (few many : ℕ → Bool) → Fewer few many → Decided C many → Decided C few
decided_fewer C few many w d = record { same = λ f g bf bg a. d.same f g bf bg (agree_fewer C few many w f g a) }
