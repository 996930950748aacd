-- How an answer becomes one 64-bit number: byte 0 is 01's number; with 5, bytes 1 and 2 are the lower and the upper strip; with 0, the upper
-- 32 bits are judge's size or read's offset, and bytes 1 to 5 are what scrub finds. Assumes nothing.
use Rattle.std.specs.Prelude.{◌≡◌, List, ℕ, ◌+◌, ◌*◌, ◌≤◌, length, Err, Ok}
use Rattle.code.specs.Layout.{X}
use Rattle.code.specs.Shift.{shift}
use Rattle.shape.specs.declared.refusal.Refusal.{Refusal}
use Rattle.shape.specs.Refusal.{number_of, lower_of, upper_of}
use Rattle.shape.specs.Judge.{Judges, Judged}
use Rattle.shape.specs.Call.{Answered, Answer}
use Rattle.finding.specs.declared.Finding.{Finding}
use Rattle.finding.specs.declared.Finding.TheVariants as finding
use Rattle.stripe.specs.Encode.{Encodes}
use Rattle.stripe.specs.Write.{Writes}
use Rattle.stripe.specs.Read.{read_number}
use Rattle.stripe.specs.Scrub.{Scrubs, Scrubbed}
use Rattle.rebuild.specs.Rebuild.{Rebuilds}

abbrev pub refusal_packed : Refusal → ℕ
refusal_packed x = number_of x + lower_of x * 256 + upper_of x * 65536

abbrev pub judged_packed : Judged → ℕ
judged_packed (Ok (h, b)) = b * 4294967296
judged_packed (Err x) = refusal_packed x

-- encode, write and rebuild, and read with v the offset of the element: what comes with 0
abbrev pub answer_packed : ℕ → Answer → ℕ
answer_packed v (Ok u) = v * 4294967296
answer_packed v (Err x) = refusal_packed x

-- a finding's number, the row that comes with it, and the diagonal or the strip; 0 where none does
abbrev pub finding_values : Finding → ℕ × ℕ × ℕ
finding_values finding.Sound = (0, 0, 0)
-- that H, by its row
finding_values (finding.H i) = (1, i, 0)
-- that U, by its diagonal
finding_values (finding.U d) = (2, 0, d)
-- the data element, by its row and its strip
finding_values (finding.Element i j) = (3, i, j)
finding_values finding.Several = (4, 0, 0)

abbrev pub counted_packed : ℕ → ℕ → Finding → ℕ
counted_packed a b f =
    a * 256 + b * 65536 + (finding_values f).0 * 16777216 + (finding_values f).1 * 4294967296 + (finding_values f).2 * 1099511627776

abbrev pub scrubbed_packed : Scrubbed → ℕ
scrubbed_packed (Ok c) = counted_packed c.rows c.diagonals c.finding
scrubbed_packed (Err x) = refusal_packed x

-- the version of the archive: major, minor, patch
abbrev pub version : ℕ × ℕ × ℕ
version = (0, 2, 0)

-- byte 2 is the major number, byte 1 the minor one, byte 0 the patch
abbrev pub version_packed : ℕ × ℕ × ℕ → ℕ
version_packed v = v.0 * 65536 + v.1 * 256 + v.2

-- ---- what is small enough to be packed

pub record SmallAnswer (x : Answer) : Type 0 where
  pub pair : (y : Refusal) → x ≡ Err y → (lower_of y ≤ 32) × (upper_of y ≤ 32)

pub record SmallFinding (f : Finding) : Type 0 where
  pub row : (finding_values f).1 ≤ 32
  pub other : (finding_values f).2 ≤ 32

-- ---- each call's number: an answer that meets the call's contract, packed

pub record JudgeAnswer (n r s e k : ℕ) : Type 0 where
  pub judged : Judged
  pub judges : Judges n r s e judged
  pub packed : k ≡ judged_packed judged

pub record EncodeAnswer (n r s e : ℕ) (before after : List ℕ) (k : ℕ) : Type 0 where
  pub answer : Answer
  pub encodes : Encodes n r s e before after answer
  pub packed : k ≡ answer_packed 0 answer

pub record WriteAnswer (n r s e i j o : ℕ) (run before after : List ℕ) (k : ℕ) : Type 0 where
  pub answer : Answer
  pub writes : Writes n r s e i j o run before after answer
  pub packed : k ≡ answer_packed 0 answer

-- the element begins at the byte of its place
pub record ReadAnswer (n r s e i j : ℕ) (b : List ℕ) (k : ℕ) : Type 0 where
  pub answer : Answer
  pub answered : Answered n r s (read_number n r s e (length b) i j) answer
  pub packed : k ≡ answer_packed (X (shift n r s) i j * e) answer

pub record ScrubAnswer (n r s e : ℕ) (b : List ℕ) (k : ℕ) : Type 0 where
  pub scrubbed : Scrubbed
  pub scrubs : Scrubs n r s e b scrubbed
  pub packed : k ≡ scrubbed_packed scrubbed

pub record RebuildAnswer (n r s e mask : ℕ) (before after : List ℕ) (k : ℕ) : Type 0 where
  pub answer : Answer
  pub rebuilds : Rebuilds n r s e mask before after answer
  pub packed : k ≡ answer_packed 0 answer

-- no call on a stripe, so no number comes back: the version alone
pub record VersionAnswer (k : ℕ) : Type 0 where
  pub packed : k ≡ version_packed version
