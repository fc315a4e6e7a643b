-- A quoted text as bytes.
use Rattle.std.specs.Prelude.{ℕ, List, [], ◌∷◌}
use Prim.Native.Char.{code}
use Prim.Native.String.{String, [] as nothing, ◌∷◌ as ◌then◌}

-- the codes of its characters
abbrev pub ascii : String → List ℕ
ascii nothing = []
ascii (character then text) = code character ∷ ascii text
