-- Document 02, Req 06: the page of a job for the service book, and what laying it out says and leaves in a lent buffer. Bytes are ASCII. Definitions only.
use Rattle.std.specs.Prelude.{cond, List, [], ◌∷◌, map, ℕ, ◌+◌, ◌*◌, leb, length, take}
use Rattle.limits.specs.Answers.{Said, value, refused}
use Rattle.search_rules.specs.declared.Best.{Best}
use Rattle.search_rules.specs.declared.Best.TheVariants.{None, Found}
use Rattle.search_rules.specs.declared.Job.{Job}
use Rattle.search_rules.specs.Job.{unbroken}
use Rattle.text.specs.Put.{over}
use Rattle.page_lines.specs.Lines.{Row, row, lines_of}
use Rattle.page.specs.Chroma.{hundredths, remainder}

-- ---- the words
-- `hues`
abbrev pub hues_word : List ℕ
hues_word = 104 ∷ 117 ∷ 101 ∷ 115 ∷ []

-- `dark`
abbrev pub dark_word : List ℕ
dark_word = 100 ∷ 97 ∷ 114 ∷ 107 ∷ []

-- `light`
abbrev pub light_word : List ℕ
light_word = 108 ∷ 105 ∷ 103 ∷ 104 ∷ 116 ∷ []

-- `chroma`
abbrev pub chroma_word : List ℕ
chroma_word = 99 ∷ 104 ∷ 114 ∷ 111 ∷ 109 ∷ 97 ∷ []

-- `rest`
abbrev pub rest_word : List ℕ
rest_word = 114 ∷ 101 ∷ 115 ∷ 116 ∷ []

-- `hue`
abbrev pub hue_word : List ℕ
hue_word = 104 ∷ 117 ∷ 101 ∷ []

-- `none`
abbrev pub none_word : List ℕ
none_word = 110 ∷ 111 ∷ 110 ∷ 101 ∷ []

-- ---- the page
-- "then `hue` k times with the index"
abbrev pub hue_rows : List ℕ → List Row
hue_rows hues = map (row hue_word) hues

-- "Lines in order: `hues`, `dark`, `light`, `chroma`, `rest`, then `hue` k times with the index. Dark and light are level indices.";
-- "A job with none so far prints `hues` and then the word `none` with 0, two lines in all."
abbrev pub rows_with : ℕ → Best → List ℕ → List Row
rows_with k None hues = row hues_word k ∷ row none_word 0 ∷ []
rows_with k (Found c d l) hues = row hues_word k ∷ row dark_word d ∷ row light_word l ∷ row chroma_word (hundredths c) ∷ row rest_word (remainder c) ∷ hue_rows (take k hues)

-- the rows of a job, finished or not: "An unfinished job is laid out as it stands."
abbrev pub rows_of : Job → List Row
rows_of j = rows_with j.settings.k j.best j.hues

-- the page: its lines, one after the other
unfoldable pub page_of : Job → List ℕ
page_of j = lines_of (rows_of j)

-- how many bytes it has where the record is not broken: 41 for each line
abbrev pub bytes_with : ℕ → Best → ℕ
bytes_with k None = 82
bytes_with k (Found c d l) = 41 * (5 + k)

-- ---- the call
-- "19 for a page buffer shorter than the page, after number 15"; else "The number of bytes written is handed back"
unfoldable pub page_says : Job → ℕ → Said ℕ
page_says j size = cond (unbroken j) (cond (leb (length (page_of j)) size) (value (length (page_of j))) (refused 19)) (refused 15)

-- "and the rest of the buffer is untouched"; refused, all of it is
abbrev pub page_by : Said ℕ → Job → List ℕ → List ℕ
page_by (value n) j before = over (page_of j) before
page_by (refused n) j before = before

-- the buffer after the call
unfoldable pub page_after : Job → List ℕ → List ℕ
page_after j before = page_by (page_says j (length before)) j before
