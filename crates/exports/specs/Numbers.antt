-- What a call hands to a caller in another language, as one number. Definitions only.
use Rattle.std.specs.Prelude.{ℕ, ◌+◌, Bool, cond, List, [], ◌∷◌, map, Float, replicate}
use Rattle.limits.specs.Answers.{Said, value, refused}
use Rattle.search_rules.specs.declared.Settings.{Settings}
use Rattle.search_rules.specs.declared.Best as search
use Rattle.search_rules.specs.declared.Best.TheVariants.{None, Found}
use Rattle.search_rules.specs.declared.Job.{Job}
use Rattle.ceiling_rules.specs.Ceiling.{Ceiling, none_left, at_most}
use Rattle.orientation_rules.specs.Orientation.{Best, none, found, hues_beside}
use Rattle.srgb.specs.Parts.{to_hex}
use Rattle.page.specs.Page.{page_after}
use Rattle.palette_checks.specs.declared.Design.{Design}
use Rattle.palette.specs.Derivation.{colors_of}
use Rattle.palette.specs.BackOff.{Ending, passes, lastly}

-- the settings that two arguments make
abbrev pub settings_of : ℕ → Float → Settings
settings_of k gap = record { k = k; gap = gap }

-- what a whole search leaves a caller with: a number, sixteen hues, two level indices and one chroma
pub record Handed : Type 0 where
  pub number : ℕ
  pub hues : List ℕ
  pub levels : List ℕ
  pub chroma : List Float

abbrev pub handed : ℕ → List ℕ → List ℕ → List Float → Handed
handed n hues levels chroma = record { number = n; hues = hues; levels = levels; chroma = chroma }

-- a best with its hues: 0 with all of it, 255 where there is none, with zeros for hues and the levels and the chroma as before
abbrev pub best_hands : search.Best → List ℕ → List ℕ → List Float → Handed
best_hands (Found c d l) hues levels chroma = handed 0 hues (d ∷ l ∷ []) (c ∷ [])
best_hands None hues levels chroma = handed 255 (replicate 16 0) levels chroma

-- after a search that says this: the best of its job, or document 01's number of the refusal with all as before
abbrev pub search_hands : Said Job → List ℕ → List ℕ → List Float → Handed
search_hands (value j) hues levels chroma = best_hands j.best j.hues levels chroma
search_hands (refused n) hues levels chroma = handed n hues levels chroma

-- the one number after it, the smallest gap of the job's hues: written where it is accepted
abbrev pub search_gap : Said Job → List ℕ → List ℕ
search_gap (value j) old = j.tightest ∷ []
search_gap (refused n) old = old

-- after a call with one hue fixed that says this: 0 with the chroma, the two hues and the two levels, 255 where there is none, with zeros for hues and the others as before, or the
-- number of the refusal with all as before
abbrev pub orientation_hands : ℕ → Said Best → List ℕ → List ℕ → List Float → Handed
orientation_hands hue (value (found c d l partner)) hues levels chroma = handed 0 (hues_beside hue (value (found c d l partner))) (d ∷ l ∷ []) (c ∷ [])
orientation_hands hue (value none) hues levels chroma = handed 255 (hues_beside hue (value none)) levels chroma
orientation_hands hue (refused n) hues levels chroma = handed n hues levels chroma

-- the best that four arguments make
abbrev pub best_of : Bool → Float → ℕ → ℕ → search.Best
best_of some c d l = cond some (Found c d l) None

-- the job that its fields make
abbrev pub job_of : ℕ → Float → ℕ → ℕ → search.Best → List ℕ → ℕ → Job
job_of k gap levels position best hues tightest = record { settings = settings_of k gap; levels = levels; position = position; best = best; hues = hues; tightest = tightest }

-- after a look ahead that says this: 0 for a ceiling, 255 where no qualifying pair is left, or the number of the refusal
abbrev pub ceiling_number : Said (search.Best × Ceiling) → ℕ
ceiling_number (value (b, at_most x)) = 0
ceiling_number (value (b, none_left)) = 255
ceiling_number (refused n) = n

-- the one number after it, the ceiling: written where there is one
abbrev pub ceiling_after : Said (search.Best × Ceiling) → List Float → List Float
ceiling_after (value (b, at_most x)) old = x ∷ []
ceiling_after (value (b, none_left)) old = old
ceiling_after (refused n) old = old

-- what a page leaves a caller with: a number, the buffer, and one count of bytes
pub record Paged : Type 0 where
  pub number : ℕ
  pub page : List ℕ
  pub written : List ℕ

abbrev pub paged : ℕ → List ℕ → List ℕ → Paged
paged n page written = record { number = n; page = page; written = written }

-- after a page of a job that says this: 0 with the page and how many bytes it has, or the number of the refusal with both as before
abbrev pub page_hands : Said ℕ → Job → List ℕ → List ℕ → Paged
page_hands (value n) j page written = paged 0 (page_after j page) (n ∷ [])
page_hands (refused w) j page written = paged w page written

-- the design that four arguments make
abbrev pub design_of : ℕ → ℕ → ℕ → List ℕ → Design
design_of k dark light hues = record { k = k; dark = dark; light = light; hues = hues }

-- what a back-off leaves a caller with: a number, thirty-two colours and one chroma
pub record Backed : Type 0 where
  pub number : ℕ
  pub colors : List ℕ
  pub chroma : List Float

abbrev pub backed : ℕ → List ℕ → List Float → Backed
backed n colors chroma = record { number = n; colors = colors; chroma = chroma }

-- after a back-off of a design that says this: 0 with the chroma that passes and its colours; 240 and the last finding's number, 240 alone where none was tried, with
-- zeros for colours and the chroma as before; or document 01's number of the refusal with both as before
abbrev pub back_off_hands : Design → List Float → List Float → Said Ending → List ℕ → List Float → Backed
back_off_hands d cs ss (value (passes c)) colors chroma = backed 0 (map to_hex (colors_of d c cs ss)) (c ∷ [])
back_off_hands d cs ss (value (lastly n)) colors chroma = backed (240 + n) (replicate 32 0) chroma
back_off_hands d cs ss (refused n) colors chroma = backed n colors chroma
