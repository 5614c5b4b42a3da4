-- Of the witnesses of docs/DECISIONS.md those of H and R, computed: H is cut and not rounded, R is exact, and 100 × N may pass 2^32; a line, and two whole pages, with none so far and with hues. Assumes nothing.
use mathlib.Core.Path.{◌≡◌, refl}
use mathlib.Core.List.{[], ◌∷◌, ◌++◌}
use lib.Ieee.{Float, binary32, of_bits}
use lib.ListN.{replicate}
use Rattle.limits.specs.Taken.{f32_of}
use Rattle.search_rules.specs.declared.Best.TheVariants.{Found}
use Rattle.search_rules.specs.declared.Job.{Job}
use Rattle.search_rules.specs.Job.{begun}
use Rattle.text.specs.Decimal.{digits_before, numeral}
use Rattle.page.specs.Chroma.{units_of, hundredths, remainder}
use Rattle.page_lines.specs.Lines.{row, aligned, line_with, line_of, lines_of}
use Rattle.page.specs.Page.{hue_word, page_of}

-- 35.029998..: bits 420c1eb8
cut : (hundredths (of_bits binary32 1108090552) ≡ 3502) × (remainder (of_bits binary32 1108090552) ≡ 262112)
unfolding of_bits units_of hundredths remainder
cut = (refl, refl)

-- the f32 after 35: bits 420c0001
least : (hundredths (of_bits binary32 1108082689) ≡ 3500) × (remainder (of_bits binary32 1108082689) ≡ 100)
unfolding of_bits units_of hundredths remainder
least = (refl, refl)

-- bits 4323d70b
beyond : (hundredths (of_bits binary32 1126422283) ≡ 16384) × (remainder (of_bits binary32 1126422283) ≡ 304)
unfolding of_bits units_of hundredths remainder
beyond = (refl, refl)

-- `hue` with 719
line : line_of (row hue_word 719) ≡ 104 ∷ 117 ∷ 101 ∷ (replicate 34 32 ++ 55 ∷ 49 ∷ 57 ∷ 10 ∷ [])
unfolding line_with aligned numeral digits_before
line = refl

-- `hues` with 7, and `none` with 0
none : (gap : Float) → page_of (begun (record { k = 7; gap = gap }) 169)
    ≡ (104 ∷ 117 ∷ 101 ∷ 115 ∷ []) ++ (replicate 35 32 ++ 55 ∷ 10 ∷ []) ++ (110 ∷ 111 ∷ 110 ∷ 101 ∷ []) ++ (replicate 35 32 ++ 48 ∷ 10 ∷ [])
unfolding page_of lines_of line_with aligned numeral digits_before
none gap = refl

-- what the search of sRGB's table for two hues at gap 40 hands out: bits 4272d8d8, levels 49 and 131, hues 272 and 653, 339 apart
two : Job
two = record { settings = record { k = 2; gap = f32_of 40 }; levels = 169; position = 28561; best = Found (of_bits binary32 1114822872) 49 131; hues = 272 ∷ 653 ∷ replicate 14 0; tightest = 339 }

found : page_of two
    ≡ (104 ∷ 117 ∷ 101 ∷ 115 ∷ (replicate 35 32 ++ 50 ∷ 10 ∷ []))
    ++ ((100 ∷ 97 ∷ 114 ∷ 107 ∷ (replicate 34 32 ++ 52 ∷ 57 ∷ 10 ∷ []))
    ++ ((108 ∷ 105 ∷ 103 ∷ 104 ∷ 116 ∷ (replicate 32 32 ++ 49 ∷ 51 ∷ 49 ∷ 10 ∷ []))
    ++ ((99 ∷ 104 ∷ 114 ∷ 111 ∷ 109 ∷ 97 ∷ (replicate 30 32 ++ 54 ∷ 48 ∷ 55 ∷ 49 ∷ 10 ∷ []))
    ++ ((114 ∷ 101 ∷ 115 ∷ 116 ∷ (replicate 31 32 ++ 52 ∷ 54 ∷ 49 ∷ 55 ∷ 54 ∷ 10 ∷ []))
    ++ ((104 ∷ 117 ∷ 101 ∷ (replicate 34 32 ++ 50 ∷ 55 ∷ 50 ∷ 10 ∷ []))
    ++ ((104 ∷ 117 ∷ 101 ∷ (replicate 34 32 ++ 54 ∷ 53 ∷ 51 ∷ 10 ∷ []))))))))
unfolding two page_of lines_of line_with aligned numeral digits_before of_bits units_of hundredths remainder
found = refl
