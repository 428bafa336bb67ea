-- The path of a DSN's URL: what stands before the project, and the project.
use Rattle.std.specs.Prelude.{◌≡◌, ◌≢◌, ℕ, ◌<◌, ◌⊎◌, ◌==◌, List, [], ◌∷◌, ◌++◌, codes, length, slice_index, reverse, if◌then◌else◌}
use Rattle.url.specs.Ascii.{slash}

-- the text without the slashes at its front, and at its end
abbrev pub cut_front : List ℕ → List ℕ
cut_front [] = []
cut_front (c ∷ cs) = if c == slash then cut_front cs else c ∷ cs

abbrev pub cut_end : List ℕ → List ℕ
cut_end text = reverse (cut_front (reverse text))

-- the path without its outer slashes
abbrev pub inner : List ℕ → List ℕ
inner path = cut_end (cut_front path)

-- the text is one segment: it has no slash
abbrev pub IsSegment : List ℕ → Type 0
IsSegment text = (i : ℕ) → i < length text → slice_index text i ≢ slash

-- The project is the last segment. The path is a slash alone, or the segments before the project with a slash on both sides.
abbrev pub IsSplit : List ℕ → List ℕ → List ℕ → Type 0
IsSplit segments path project =
    ((segments ≡ project) × IsSegment project × (path ≡ codes "/"))
    ⊎ ((front : List ℕ) × (segments ≡ front ++ slash ∷ project) × IsSegment project × (path ≡ codes "/" ++ (front ++ codes "/")))
