-- The text of a job in a buffer.
use Rattle.std.specs.Prelude.{◌≡◌, ℕ, ◌*◌, min, max, List, length, None, Option}
use Rattle.job.specs.Lines.{over}

-- room for the text of a job of n bytes: 16 bytes for each, and at least 64; a buffer that long may not exist
abbrev pub text_room : ℕ → ℕ
text_room n = max (min (n * 16) 18446744073709551615) 64

-- a short buffer is refused, and alters neither plan nor buffer
pub record Short (r : Option ℕ) (plan text : Type 0) : Type 0 where
  pub none : r ≡ None
  pub same_plan : plan
  pub same_text : text

-- a text of n bytes was laid over the front of the buffer
pub record Wrote (bytes : List ℕ) (n : ℕ) (before after : List ℕ) : Type 0 where
  pub long : n ≡ length bytes
  pub text : after ≡ over bytes before
