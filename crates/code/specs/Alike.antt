-- Codes that have the same places, strips and lines: what is decided or fails in the one is so in the other. Assumes nothing.
use Rattle.std.specs.Prelude.{ℕ, ◌<◌, ◌≡◌, Bool}
use Rattle.std.proofs.Common.{sym, ap, ◌∙◌, subst}
use Rattle.code.specs.Sum.{sum}
use Rattle.code.specs.Code.{Code, Balanced, Agree, Same, Bytes, Fails, Decided}

pub record Alike (C D : Code) : Type 0 where
  pub places : C.places ≡ D.places
  pub lines : C.lines ≡ D.lines
  pub line : (t : ℕ) → t < C.lines → C.line t ≡ D.line t
  pub strip : (p : ℕ) → C.strip p ≡ D.strip p

pub alike_sym : (C D : Code) → Alike C D → Alike D C
alike_sym C D x =
    record {
      places = sym x.places;
      lines = sym x.lines;
      line = λ t l. sym (x.line t (subst (λ (m : ℕ). t < m) (sym x.lines) l));
      strip = λ p. sym (x.strip p);
    }

module _ (C D : Code) (x : Alike C D) where
  to : (p : ℕ) → p < D.places → p < C.places
  to p l = subst (λ (m : ℕ). p < m) (sym x.places) l

  pub balanced_alike : (f : ℕ → ℕ) → Balanced C f → Balanced D f
  balanced_alike f b =
      record {
        zero = λ t l.
            let m : t < C.lines = subst (λ (y : ℕ). t < y) (sym x.lines) l in
            ap (sum f) (sym (x.line t m)) ∙ b.zero t m;
      }

  pub agree_alike : (lost : ℕ → Bool) (f g : ℕ → ℕ) → Agree C lost f g → Agree D lost f g
  agree_alike lost f g a = record { survivors = λ p l e. a.survivors p (to p l) (ap lost (x.strip p) ∙ e) }

  pub same_alike : (f g : ℕ → ℕ) → Same C f g → Same D f g
  same_alike f g s = record { all = λ p l. s.all p (to p l) }

  pub bytes_alike : (f : ℕ → ℕ) → Bytes C f → Bytes D f
  bytes_alike f s = record { small = λ p l. s.small p (to p l) }

pub fails_alike : (C D : Code) → Alike C D → (lost : ℕ → Bool) → Fails C lost → Fails D lost
fails_alike C D x lost y =
    record {
      one = y.one;
      other = y.other;
      one_bytes = bytes_alike C D x y.one y.one_bytes;
      other_bytes = bytes_alike C D x y.other y.other_bytes;
      one_sound = balanced_alike C D x y.one y.one_sound;
      other_sound = balanced_alike C D x y.other y.other_sound;
      agree = agree_alike C D x lost y.one y.other y.agree;
      differ = λ s. y.differ (same_alike D C (alike_sym C D x) y.one y.other s);
    }

pub decided_alike : (C D : Code) → Alike C D → (lost : ℕ → Bool) → Decided C lost → Decided D lost
decided_alike C D x lost y =
    record {
      same = λ f g bf bg a.
          same_alike C D x f g
          (y.same f g (balanced_alike D C (alike_sym C D x) f bf) (balanced_alike D C (alike_sym C D x) g bg) (agree_alike D C (alike_sym C D x) lost f g a));
    }
