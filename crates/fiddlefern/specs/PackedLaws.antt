-- Laws of the packed answers: each part stands in bytes of its own, and the numbers and the bytes that go into a call leave nothing open of
-- the number and the bytes that come out. Assumes nothing.
use Rattle.std.specs.Prelude.{◌≡◌, List, ℕ, ◌*◌, ◌/◌, ◌%◌, ◌≤◌}
use Rattle.std.proofs.Common.{sym, ap, ◌∙◌, arith}
use Rattle.code.specs.Layout.{X}
use Rattle.code.specs.Shift.{shift}
use Rattle.shape.specs.declared.refusal.Refusal.{Refusal}
use Rattle.shape.specs.Refusal.{number_of, lower_of, upper_of, refusal_most}
use Rattle.shape.specs.JudgeLaws.{judge_determined}
use Rattle.finding.specs.declared.Finding.{Finding}
use Rattle.stripe.specs.EncodeDetermined.{encode_determined}
use Rattle.stripe.specs.WriteLaws.{write_determined}
use Rattle.stripe.specs.ReadLaws.{read_check_determined}
use Rattle.stripe.specs.ScrubTheorems.{scrub_determined}
use Rattle.rebuild.proofs.RebuildDetermined.{rebuild_determined}
use Rattle.fiddlefern.specs.Packed.{refusal_packed, judged_packed, answer_packed, finding_values, counted_packed, scrubbed_packed, SmallFinding, JudgeAnswer, EncodeAnswer, WriteAnswer, ReadAnswer, ScrubAnswer, RebuildAnswer, VersionAnswer}
use Rattle.fiddlefern.specs.ScrubSmall.{finding_most}

-- ---- each part stands in bytes of its own

-- a refusal: byte 0 the number, bytes 1 and 2 the pair, and nothing above
pub record RefusalBytes (x : Refusal) (k : ℕ) : Type 0 where
  pub number : k % 256 ≡ number_of x
  pub lower : k / 256 % 256 ≡ lower_of x
  pub upper : k / 65536 ≡ upper_of x

pub refusal_bytes : (x : Refusal) → lower_of x ≤ 32 → upper_of x ≤ 32 → RefusalBytes x (refusal_packed x)
refusal_bytes x l u =
    let m = refusal_most x in
    record { number = omega arith; lower = omega arith; upper = omega arith }

-- a size or an offset: the upper 32 bits, and the number 0
pub upper_bytes : (v : ℕ) → (v * 4294967296 % 4294967296 ≡ 0) × (v * 4294967296 / 4294967296 ≡ v)
upper_bytes v = (omega arith, omega arith)

-- what scrub finds: bytes 1 and 2 the counts, byte 3 the finding, byte 4 the row, byte 5 the diagonal or the strip, and nothing above
pub record CountedBytes (a b : ℕ) (f : Finding) (k : ℕ) : Type 0 where
  pub number : k % 256 ≡ 0
  pub rows : k / 256 % 256 ≡ a
  pub diagonals : k / 65536 % 256 ≡ b
  pub finding : k / 16777216 % 256 ≡ (finding_values f).0
  pub row : k / 4294967296 % 256 ≡ (finding_values f).1
  pub other : k / 1099511627776 ≡ (finding_values f).2

pub counted_bytes : (a b : ℕ) (f : Finding) → a ≤ 32 → b ≤ 32 → SmallFinding f → CountedBytes a b f (counted_packed a b f)
counted_bytes a b f la lb z =
    let m = finding_most f in
    let i = z.row in
    let j = z.other in
    record {
      number = omega arith;
      rows = omega arith;
      diagonals = omega arith;
      finding = omega arith;
      row = omega arith;
      other = omega arith;
    }

-- ---- nothing is left open

module _ (n r s e : ℕ) where
  pub judge_answer_determined : (k m : ℕ) → JudgeAnswer n r s e k → JudgeAnswer n r s e m → k ≡ m
  judge_answer_determined k m x y =
      x.packed ∙ ap judged_packed (judge_determined n r s e x.judged y.judged x.judges y.judges) ∙ sym y.packed

  module _ (b : List ℕ) where
    pub encode_answer_determined : (a c : List ℕ) (k m : ℕ) → EncodeAnswer n r s e b a k → EncodeAnswer n r s e b c m → (k ≡ m) × (a ≡ c)
    encode_answer_determined a c k m x y =
        let d = encode_determined n r s e b a c x.answer y.answer x.encodes y.encodes in
        (x.packed ∙ ap (answer_packed 0) d.0 ∙ sym y.packed, d.1)

    module _ (i j : ℕ) where
      pub write_answer_determined : (o : ℕ) (run a c : List ℕ) (k m : ℕ) → WriteAnswer n r s e i j o run b a k → WriteAnswer n r s e i j o run b c m
          → (k ≡ m) × (a ≡ c)
      write_answer_determined o run a c k m x y =
          let d = write_determined n r s e i j o run b a c x.answer y.answer x.writes y.writes in
          (x.packed ∙ ap (answer_packed 0) d.0 ∙ sym y.packed, d.1)

      pub read_answer_determined : (k m : ℕ) → ReadAnswer n r s e i j b k → ReadAnswer n r s e i j b m → k ≡ m
      read_answer_determined k m x y =
          let d = read_check_determined n r s e i j b x.answer y.answer x.answered y.answered in
          x.packed ∙ ap (answer_packed (X (shift n r s) i j * e)) d ∙ sym y.packed

    pub scrub_answer_determined : (k m : ℕ) → ScrubAnswer n r s e b k → ScrubAnswer n r s e b m → k ≡ m
    scrub_answer_determined k m x y =
        x.packed ∙ ap scrubbed_packed (scrub_determined n r s e b x.scrubbed y.scrubbed x.scrubs y.scrubs) ∙ sym y.packed

    pub rebuild_answer_determined : (mask : ℕ) (a c : List ℕ) (k m : ℕ) → RebuildAnswer n r s e mask b a k → RebuildAnswer n r s e mask b c m
        → (k ≡ m) × (a ≡ c)
    rebuild_answer_determined mask a c k m x y =
        let d = rebuild_determined n r s e mask b a c x.answer y.answer x.rebuilds y.rebuilds in
        (x.packed ∙ ap (answer_packed 0) d.0 ∙ sym y.packed, d.1)

pub version_answer_determined : (k m : ℕ) → VersionAnswer k → VersionAnswer m → k ≡ m
version_answer_determined k m x y = x.packed ∙ sym y.packed
