-- What a balancer writes by version 1 is read.
use Rattle.std.proofs.Common.{◌≡◌, ◌∙◌, sym, refl, ap, subst, ℕ, ◌+◌, ◌^◌, ◌<◌, ◌≤◌, List, [], ◌∷◌, ◌++◌, length, arith, length-append, append_assoc, codes}
use Rattle.std.specs.Prelude.{decimal}
use Rattle.rtsp_proxy.specs.declared.seen.Origin.TheVariants.{Player}
use Rattle.rtsp_proxy.specs.declared.seen.Seen.TheVariants.{Header}
use Rattle.rtsp_proxy.specs.Laws.{dotted, line_for, LineIsRead}
use Rattle.rtsp_proxy.specs.Proxy.{word, proxy_of}
use Rattle.rtsp_proxy.proofs.Addresses.{fields, address-read, port-read, address-short, port-short}
use Rattle.rtsp_proxy.proofs.Lines.{texts-are-read}

fields-short : (source target port target_port : List ℕ) → length source ≤ 15 → length target ≤ 15 → length port ≤ 5 → length target_port ≤ 5 → length (fields source target port target_port) < 100
fields-short source target port target_port a b c d =
    let third = length-append port (32 ∷ target_port) in
    let second = length-append target (32 ∷ (port ++ 32 ∷ target_port)) in
    let first = length-append source (32 ∷ (target ++ 32 ∷ (port ++ 32 ∷ target_port))) in
    omega (arith, first, second, third, a, b, c, d)

pub line-is-read : LineIsRead
line-is-read source target port target_port text s t p q =
    let told = fields (dotted source) (dotted target) (decimal port) (decimal target_port) in
    let short = fields-short (dotted source) (dotted target) (decimal port) (decimal target_port) (address-short source s) (address-short target t) (port-short port p) (port-short target_port q) in
    let read = texts-are-read (dotted source) (dotted target) (decimal port) (decimal target_port) text source target port target_port
    (address-read source s) (address-read target t) (port-read port p) (port-read target_port q) short in
    let whole : line_for source target port target_port ++ text ≡ word ++ told ++ 13 ∷ 10 ∷ text = ap (λ l. word ++ l) (append_assoc told (13 ∷ 10 ∷ []) text) in
    let size : 8 + length told ≡ length (line_for source target port target_port) = let long = length-append told (13 ∷ 10 ∷ []) in omega (arith, long) in
    ap proxy_of whole ∙ read ∙ ap (Header (Player source port)) size
