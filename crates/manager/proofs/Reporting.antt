-- The lines of a report, one after the other.
use Rattle.std.proofs.Common.{◌≡◌, ℕ, ◌+◌, List, [], ◌++◌, Option, None, Some, slice_get, refl, sym, ap, ◌∙◌, add-one, append_assoc}
use Rattle.std.proofs.lemmas.List.{append-nil}
use Rattle.engine.specs.declared.state.totals.DomainTotals.{DomainTotals}
use Rattle.engine.specs.Domains.{domain_at}
use Rattle.engine.specs.State.{State}
use Rattle.vtdbits.specs.Context.{attached}
use Rattle.engine.specs.Totals.{domain_totals_of}
use Rattle.manager.specs.Report.{device_line, device_lines, domain_line, domain_lines, line_of_device, line_of_domain}

-- a line was put behind the others
one_more : (old now new before after line : List ℕ) → now ≡ old ++ before → after ≡ before ++ line → new ≡ now ++ line → new ≡ old ++ after
one_more old now new before after line so_far is put =
    put ∙ ap (λ (r : List ℕ). r ++ line) so_far ∙ append_assoc old before line ∙ ap (λ (r : List ℕ). old ++ r) (sym is)

-- ---- domains

domains_more : (m : State) (n : ℕ)
    → domain_lines m (n + 1) ≡ domain_lines m n ++ line_of_domain (n + 1) (domain_totals_of (domain_at m.domains (n + 1)))
unfolding domain_lines
domains_more m n = rw add-one refl

pub no_domains : (m : State) (old : List ℕ) → old ≡ old ++ domain_lines m 0
unfolding domain_lines
no_domains m old = sym (append-nil old)

pub domain_there : (m : State) (n : ℕ) (t : DomainTotals) (old now new : List ℕ) → now ≡ old ++ domain_lines m n
    → domain_totals_of (domain_at m.domains (n + 1)) ≡ Some t → new ≡ now ++ domain_line (n + 1) t
    → new ≡ old ++ domain_lines m (n + 1)
domain_there m n t old now new so_far is put =
    one_more old now new (domain_lines m n) (domain_lines m (n + 1)) (domain_line (n + 1) t) so_far
    (domains_more m n ∙ ap (λ (o : Option DomainTotals). domain_lines m n ++ line_of_domain (n + 1) o) is) put

pub domain_missing : (m : State) (n : ℕ) (old now : List ℕ) → now ≡ old ++ domain_lines m n
    → domain_totals_of (domain_at m.domains (n + 1)) ≡ None → now ≡ old ++ domain_lines m (n + 1)
domain_missing m n old now so_far is =
    one_more old now now (domain_lines m n) (domain_lines m (n + 1)) [] so_far
    (domains_more m n ∙ ap (λ (o : Option DomainTotals). domain_lines m n ++ line_of_domain (n + 1) o) is) (sym (append-nil now))

-- ---- devices

devices_more : (m : State) (n : ℕ) → device_lines m (n + 1) ≡ device_lines m n ++ line_of_device n (attached (slice_get m.iommu.contexts n))
unfolding device_lines
devices_more m n = rw add-one refl

pub no_devices : (m : State) (old : List ℕ) → old ≡ old ++ device_lines m 0
unfolding device_lines
no_devices m old = sym (append-nil old)

pub device_attached : (m : State) (n domain : ℕ) (old now new : List ℕ) → now ≡ old ++ device_lines m n
    → attached (slice_get m.iommu.contexts n) ≡ Some domain → new ≡ now ++ device_line n domain
    → new ≡ old ++ device_lines m (n + 1)
device_attached m n domain old now new so_far is put =
    one_more old now new (device_lines m n) (device_lines m (n + 1)) (device_line n domain) so_far
    (devices_more m n ∙ ap (λ (o : Option ℕ). device_lines m n ++ line_of_device n o) is) put

pub device_alone : (m : State) (n : ℕ) (old now : List ℕ) → now ≡ old ++ device_lines m n → attached (slice_get m.iommu.contexts n) ≡ None
    → now ≡ old ++ device_lines m (n + 1)
device_alone m n old now so_far is =
    one_more old now now (device_lines m n) (device_lines m (n + 1)) [] so_far
    (devices_more m n ∙ ap (λ (o : Option ℕ). device_lines m n ++ line_of_device n o) is) (sym (append-nil now))
