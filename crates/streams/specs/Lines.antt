-- Lines that say something, out of the bytes of a reader. A text of what a line says is a function: what the line says, its newline left
-- out, where it says anything. It is `says` of a script's lines and `event_said` of a trace's. Of bytes that aren't known nothing is said.
use Rattle.std.specs.Prelude.{◌≡◌, ◌≢◌, ℕ, ◌+◌, ◌-◌, ◌^◌, ◌≤◌, min, List, [], ◌∷◌, ◌++◌, length, Option, Some, None}
use Rattle.streams.specs.Bytes.{IsUnbroken}

-- the line says this
pub record LineSays {A : Type 0} (said : List ℕ → Option A) (line : List ℕ) (a : A) : Type 0 where
  pub whole : IsUnbroken line
  pub is : said line ≡ Some a

-- the bytes are lines that say these, one after the other, and then the rest
abbrev pub LinesSay : {A : Type 0} → (List ℕ → Option A) → List ℕ → List A → List ℕ → Type 0
LinesSay said bytes [] rest = bytes ≡ rest
LinesSay said bytes (a ∷ items) rest =
    (line more : List ℕ) × (bytes ≡ line ++ 10 ∷ more) × LineSays said line a × LinesSay said more items rest

-- something stands there, and no line that says something stands first
pub record BeginsBadly {A : Type 0} (said : List ℕ → Option A) (rest : List ℕ) : Type 0 where
  pub something : rest ≢ []
  pub no_line : (line more : List ℕ) (a : A) → rest ≡ line ++ 10 ∷ more → LineSays said line a → ⊥

-- these bytes are of one line: at most so many, and one more, which alone may be its newline
pub record IsOfOneLine (most : ℕ) (bytes : List ℕ) : Type 0 where
  pub line : List ℕ
  pub last : List ℕ
  pub parts : bytes ≡ line ++ last
  pub whole : IsUnbroken line
  pub few : length line ≤ most
  pub one : length last ≤ 1

-- ---- what was there to read and what of it is left, where the lines that were read say these

-- all was read, and no line is bad
pub record ReadToEnd {A : Type 0} (said : List ℕ → Option A) (input left : List ℕ) (items : List A) : Type 0 where
  pub lines : LinesSay said input items []
  pub all_read : left ≡ []

-- the first bad line has this number. Of that line at most one byte more was taken than a line has at most, and nothing after it
pub record ReadToBadLine {A : Type 0} (said : List ℕ → Option A) (most : ℕ) (input left : List ℕ) (items : List A) (number : ℕ) : Type 0
  where
    pub rest : List ℕ
    pub lines : LinesSay said input items rest
    pub bad : BeginsBadly said rest
    pub taken : List ℕ
    pub of_line : IsOfOneLine most taken
    pub parts : rest ≡ taken ++ left
    -- the count stops at the greatest u64
    pub place : number ≡ min (length items + 1) (2 ^ 64 - 1)

-- what was read after the whole lines is less than a line
pub record ReadToFailure {A : Type 0} (said : List ℕ → Option A) (most : ℕ) (input left : List ℕ) (items : List A) : Type 0 where
  pub taken : List ℕ
  pub parts : input ≡ taken ++ left
  pub rest : List ℕ
  pub lines : LinesSay said taken items rest
  pub no_more : IsUnbroken rest
  pub short : length rest ≤ most

-- these are lines at the beginning
pub record ReadPartly {A : Type 0} (said : List ℕ → Option A) (input : List ℕ) (items : List A) : Type 0 where
  pub rest : List ℕ
  pub lines : LinesSay said input items rest

-- ---- where the bytes are known, before and after; whoever knows them before knows them after

abbrev pub IfKnown : Option (List ℕ) → Option (List ℕ) → (List ℕ → List ℕ → Type 0) → Type 0
IfKnown None new P = Unit {0}
IfKnown (Some old) None P = ⊥
IfKnown (Some old) (Some new) P = P old new
