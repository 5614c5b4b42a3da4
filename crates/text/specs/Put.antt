-- Bytes put into a text from a place on: what the text holds after that, and where the bytes end. Definitions only.
use Rattle.std.specs.Prelude.{◌≡◌, List, ◌++◌, ℕ, ◌+◌, ◌-◌, min, length, take, drop}

-- a text with these bytes from a place on: those that do not fit are left out, and nothing else is touched
unfoldable pub put_in : List ℕ → ℕ → List ℕ → List ℕ
put_in text at bytes = take at text ++ take (length text - at) bytes ++ drop (at + length bytes) text

-- the place after them, which is the text's end where they do not fit
abbrev pub place_after : List ℕ → ℕ → List ℕ → ℕ
place_after text at bytes = min (at + length bytes) (length text)

-- bytes put at a place of a text, and r, the place after them
pub record PutIn (before : List ℕ) (at : ℕ) (bytes after : List ℕ) (r : ℕ) : Type 0 where
  pub holds : after ≡ put_in before at bytes
  pub ends : r ≡ place_after before at bytes

-- these laid over the front of what stood there, of which the rest is untouched
unfoldable pub over : {A : Type 0} → List A → List A → List A
over front before = front ++ drop (length front) before

-- bytes laid over the front of a text, and r, how many they are
pub record Laid (before bytes after : List ℕ) (r : ℕ) : Type 0 where
  pub holds : after ≡ over bytes before
  pub counts : r ≡ length bytes
