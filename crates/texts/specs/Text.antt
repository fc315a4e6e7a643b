-- A text of up to 160 bytes in an array.
use Rattle.std.specs.Prelude.{ℕ, ◌-◌, ◌≡◌, List, ◌++◌, length, take, replicate}
use Rattle.texts.specs.declared.text.Text.{Text}

abbrev pub longest : ℕ
longest = 160

-- the bytes of a text: the first `len` of the array
unfoldable pub text_of : Text → List ℕ
text_of text = take text.len text.bytes

-- the text with these bytes, zeros behind them; `text_with_lem` says that its bytes are these
unfoldable pub text_with : List ℕ → Text
text_with bytes = record { bytes = bytes ++ replicate (longest - length bytes) 0; len = length bytes }

-- what is past the longest text is cut off
unfoldable pub capped : List ℕ → List ℕ
capped bytes = take longest bytes

-- the longer text is the first with these bytes behind its own, as far as there is room
pub record Puts (text : Text) (more : List ℕ) (longer : Text) : Type 0 where
  pub puts : (bytes : List ℕ) → text ≡ text_with bytes → longer ≡ text_with (capped (bytes ++ more))
