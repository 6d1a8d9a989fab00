-- Document 01, 'Sizes': the head and the `lb` of a size. All in f32, sums from the left.
use Rattle.std.specs.Prelude.{false, cond, List, [], ◌∷◌, ℕ, ◌+◌, ◌-◌, min, length, get_or, take, drop, Float}
use Rattle.std.specs.Float.{nan, inf, binary32}
use Rattle.std.specs.Float.Ieee.{add, sub, mul, lt}
use Rattle.lists.specs.Counted.{bit}
use Rattle.ieee.specs.Numbers.{nat}
use Rattle.counts.specs.Counts.{orient_sent}
use Rattle.literals.specs.Literals.{literal_bits}
use Rattle.samples.specs.Narrow.{narrow_of}
use Rattle.groups.specs.declared.Histogram.{Histogram}
use Rattle.groups.specs.Groups.{centers_of, error_of, groups_of}
use Rattle.sizes.specs.declared.Block.{Block}
use Rattle.sizes.specs.declared.Size.{Size}

-- mode[1] - mode[0] + size[k - 2] + the literal bits of all k colours + 1 if an orientation bit is sent
unfoldable pub head_of : List Float → Block → List ℕ → Float
head_of costs b colors =
    let mode = sub binary32 (get_or costs 1 nan) (get_or costs 0 nan) in
    let size = get_or costs (2 + (length colors - 2)) nan in
    let literal = nat binary32 (literal_bits b.bd colors) in
    let orientation = nat binary32 (bit (orient_sent b.width b.height)) in
    add binary32 (add binary32 (add binary32 mode size) literal) orientation

-- the least of x and the list
unfoldable pub least_of : Float → List Float → Float
least_of x [] = x
least_of x (y ∷ ys) = least_of (cond (lt y x) y x) ys

-- of the twelve row costs, row[3][2] included
abbrev pub least_row : List Float → Float
least_row costs = least_of (inf false) (drop 9 (take 21 costs))

-- the shorter side if an orientation bit is sent, else the height
abbrev pub fewest_lines : ℕ → ℕ → ℕ
fewest_lines w h = cond (orient_sent w h) (min w h) h

-- error + lambda × (head + lines × least row cost)
abbrev pub lb_of : List Float → Block → Float → Float → Float
lb_of costs b error head =
    let rows = mul binary32 (nat binary32 (fewest_lines b.width b.height)) (least_row costs) in
    add binary32 error (mul binary32 b.lambda (add binary32 head rows))

-- the size of k colours, of a block with the levels of h
abbrev pub size_of : List Float → Block → Histogram → ℕ → Size
size_of costs b h k =
    let head = head_of costs b (centers_of h k) in
    record { n = k; colors = (groups_of h k).colors; head = head; lb = lb_of costs b (narrow_of (error_of h k)) head }
